-- What `item_writer` promises; the written form itself is defined in `items`.
pub mod Answers
-- cited by no public promise
pub mod Steps
