-- laws
pub mod Given
pub mod SearchOrder
pub mod SearchClosed
pub mod SearchWay
pub mod RoutesAlike
pub mod UsedSteps
pub mod Balance
pub mod BalanceCuts
pub mod TwoRoutes
pub mod WaysCarried
pub mod WaysFound
pub mod RoutesApart
