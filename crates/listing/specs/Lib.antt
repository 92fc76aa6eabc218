-- What `listing` promises of the buffers that it fills or looks at.
pub mod Texts
pub mod Kept
