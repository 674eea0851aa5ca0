pub mod Ending
pub mod Output
pub mod LongInput
