-- numbers, the names of units, and words
pub mod Numbers
pub mod Units
pub mod Words
-- runs and tokens, read from the start
pub mod Longest
pub mod Classes
pub mod Runs
pub mod Parts
pub mod Sums
pub mod Verdict
-- the form of a span by the texts that have it
pub mod Blanks
pub mod Gaps
pub mod Forms
pub mod Spelling
pub mod Reading
pub mod Laws
