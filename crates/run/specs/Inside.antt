-- What the code of the run does at each command, in its own types.
pub mod Runs
pub mod Unanswered
pub mod Left
pub mod Course
pub mod Further
pub mod FurtherAnswered
pub mod FurtherUnanswered
