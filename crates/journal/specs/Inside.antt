-- What the code of the entry does, in its own types.
pub mod Report
pub mod Counted
pub mod Start
