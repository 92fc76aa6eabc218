-- the round trip of a list: over the definitions, over what the calls promise, and of one function
pub mod ListBack
pub mod CallsBack
-- look-up after a read: over what the calls promise, and of one function
pub mod LookedUp
pub mod FileEntries
-- calls of `read`
pub mod ExcludedReads
-- demand 3 over what the calls promise
pub mod Demand3
-- two normal texts, of one function each
pub mod FileTexts
pub mod Twice
pub mod Alike
-- the bench cases
pub mod Bench
-- wrong programs that the promises rule out
pub mod Excluded
pub mod ExcludedNormal
-- what specs/ states
pub mod Claims
