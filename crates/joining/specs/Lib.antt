pub mod Promise
pub mod Told
pub mod Inside
