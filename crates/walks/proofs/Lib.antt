pub mod Known
pub mod Lent
pub mod Listed
pub mod Locals
pub mod Loops
pub mod Walk
