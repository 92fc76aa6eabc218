-- What `items` promises, in the order of the rules.
pub mod Escapes
pub mod Pieces
pub mod Split
pub mod Write
-- what the public functions answer
pub mod Answers
-- readings of the rules, as cases
pub mod Readings
-- what is known of the definitions
pub mod Grammar
pub mod Laws
-- cited by no public promise
pub mod Steps
