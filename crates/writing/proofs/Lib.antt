pub mod ItemSteps
pub mod WriteSteps
pub mod RouteSteps
