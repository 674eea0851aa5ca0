pub mod Inside
pub mod Promise
