-- What is stored where several numbers are.
pub mod Numbers
