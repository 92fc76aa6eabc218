-- What `lines` promises, in the order of the rules.
pub mod Bytes
pub mod Text
pub mod Utf8
pub mod Lines
pub mod Trim
-- what the public functions answer
pub mod Answers
pub mod Files
pub mod Buffers
pub mod Cursors
-- what the crates above rest on
pub mod Laws
pub mod CommentLaws
-- cited by no public promise
pub mod CharSteps
pub mod LineSteps
