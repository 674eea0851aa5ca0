-- What the code of joining does, step by step, in its own types.
pub mod Seams
pub mod Raising
pub mod Joined
pub mod Alone
