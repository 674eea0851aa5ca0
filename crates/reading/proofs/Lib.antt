pub mod ReadSteps
pub mod PassedAt
