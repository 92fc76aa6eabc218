-- Laws about the definitions of specs/, for the proofs of this crate and of those above it.
-- what events bring
pub mod Events
-- the parts of a line, and its kinds
pub mod Parts
pub mod KindLaws
-- what holds of the tables of files
pub mod Outcomes
pub mod Sizes
pub mod TableLaws
pub mod Refusals
-- the code: one line more
pub mod Scans
pub mod Search
pub mod Puts
pub mod Taking
pub mod TakingLines
-- the code: all lines, and a call of `read`
pub mod ReadingLines
pub mod ReadingAll
pub mod ReadCalls
-- what specs/Laws.antt and specs/FileLaws.antt state
pub mod Laws
pub mod FileLaws
