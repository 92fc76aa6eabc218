-- What `lookup` promises, in the order of the rules.
pub mod Decoding
pub mod Questions
-- what the calls answer
pub mod Answers
-- what the crates above rest on
pub mod Laws
-- cited by no public promise
pub mod Steps
