-- loops over lists, and what is put into a text
pub mod Rest
-- bytes, items and lists as they are written
pub mod Bare
pub mod Forms
pub mod Written
pub mod Quoting
pub mod Items
-- the items that ends cut out
pub mod Cuts
pub mod Lists
-- the answer
pub mod Verdict
