-- What reading the input promises: the kit promises nothing of the bytes that arrive.
pub mod Inputs
