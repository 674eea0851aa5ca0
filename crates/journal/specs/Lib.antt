pub mod Inside
pub mod Promise
pub mod Longest
