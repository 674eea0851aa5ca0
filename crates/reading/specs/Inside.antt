-- The paper's value for each case of what is read, and a journal from a place on.
pub mod Reads
pub mod Places
