pub mod Counting
pub mod HighestBit
pub mod Scanning
