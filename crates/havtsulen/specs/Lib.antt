-- What the calls for C promise.
-- a number as the answer, and a report of four numbers
pub mod Reports
-- what each call answers, reports and leaves in the buffers
pub mod Answers
-- cited by no public promise
pub mod Steps
