pub mod Frame
pub mod Lists
pub mod Searches
pub mod Walks
pub mod Passes
