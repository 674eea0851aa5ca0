pub mod Whole
pub mod WholeAnswered
pub mod WholeUnanswered
pub mod Needed
