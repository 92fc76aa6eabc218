-- What `table` promises, in the order of the rules.
pub mod LineKinds
pub mod Tables
pub mod Contents
-- what `read` answers and leaves
pub mod Answers
-- what the crates above rest on
pub mod Laws
pub mod FileLaws
-- cited by no public promise
pub mod Steps
