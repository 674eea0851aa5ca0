pub mod Rule
pub mod Inside
pub mod Promise
