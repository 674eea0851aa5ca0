-- How far a journal is measured and written, in the code's own types.
pub mod Measures
pub mod Writes
