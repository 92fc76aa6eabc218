-- What `normal_text` promises, in the order of the rules.
pub mod Sections
pub mod ByLines
pub mod NormalText
-- what the call answers and leaves
pub mod Answers
-- demand 3 over the definitions, and what the crates above rest on
pub mod Laws
-- cited by no public promise
pub mod Steps
