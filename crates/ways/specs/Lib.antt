pub mod Search
pub mod Used
pub mod Balance
pub mod TwoRoutes
pub mod WaysFound
pub mod RoutesApart
pub mod Examples
