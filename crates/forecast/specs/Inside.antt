-- What the code of the forecast counts, in its own types.
pub mod Tallies
