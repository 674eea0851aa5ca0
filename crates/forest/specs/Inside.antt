-- What the code of the forest does, step by step, and when the words of a table are those of a network with its names.
pub mod Words
pub mod Climb
pub mod Route
pub mod Tree
pub mod Queries
pub mod Surveys
pub mod Valid
pub mod Held
