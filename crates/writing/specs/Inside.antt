-- What the writers leave in the buffer, and the paper's value for each case of what they write.
pub mod Items
pub mod Writes
pub mod Notices
