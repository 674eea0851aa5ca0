-- What the code of a step does, in its own types.
pub mod Judged
pub mod Asked
