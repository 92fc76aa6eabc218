-- The demands, as statements about what calls leave behind.
pub mod ReadCalls
pub mod RoundTrip
pub mod LookUps
pub mod Demand3
pub mod TwoTexts
-- the bench cases
pub mod Bench
-- wrong programs that the promises rule out
pub mod Excluded
pub mod ExcludedReads
pub mod ExcludedNormal
-- cited by no public promise
pub mod Steps
