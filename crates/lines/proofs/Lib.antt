-- Laws about the definitions of specs/, for the proofs of this crate and of those above it.
pub mod Bools
pub mod Outcomes
pub mod Comparison
pub mod ByteClasses
pub mod Buffers
pub mod Putting
pub mod Stores
pub mod Slices
pub mod Trimming
pub mod LineFeeds
pub mod Chains
-- UTF-8 and the check of a file
pub mod Utf8Laws
pub mod Characters
pub mod LongestStart
pub mod Encoded
pub mod StdUtf8
pub mod FileLaws
-- physical and logical lines
pub mod Runs
pub mod Physicals
pub mod Joining
pub mod Totals
pub mod Appending
pub mod Whole
pub mod Legal
-- comments, and files of two parts
pub mod Comments
pub mod LineEnds
pub mod CheckedParts
-- the joiner
pub mod CursorSteps
pub mod Pieces
pub mod Walk
pub mod Reading
pub mod Promises
-- what specs/Laws.antt and specs/CommentLaws.antt state
pub mod Laws
pub mod CommentLaws
