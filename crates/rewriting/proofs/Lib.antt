pub mod Going
pub mod Measuring
pub mod Writing
pub mod Ends
