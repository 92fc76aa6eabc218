-- The proofs that the calls keep their promises.
-- what is reported for an outcome
pub mod Reporting
-- no refusal has the number 0
pub mod Numbers
-- each call, from the promise of the function below it
pub mod FileCalls
pub mod QuestionCalls
pub mod ListCalls
pub mod ValueCalls
