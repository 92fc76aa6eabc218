-- records one after another, and the loops over them
pub mod Walking
-- what the records of a table say
pub mod Decoded
-- iterators over indexes
pub mod Ranges
-- the first and the last entry that is asked for
pub mod Searching
-- the calls
pub mod Calls
-- where there is a table
pub mod Soundness
-- what first and last mean
pub mod Meanings
-- a table laid out decodes to itself
pub mod ReadBack
-- what the crates above rest on
pub mod Laws
