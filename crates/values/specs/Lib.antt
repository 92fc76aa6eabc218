-- What `values` promises, in the order of the rules.
pub mod Booleans
pub mod Spans
-- what the public functions answer
pub mod Answers
-- what is known of the definitions
pub mod Laws
-- cited by no public promise
pub mod Steps
