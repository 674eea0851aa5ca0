pub mod Inside
pub mod Same
