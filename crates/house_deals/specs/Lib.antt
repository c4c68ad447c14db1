pub mod Different
pub mod Connected
pub mod DealSteps
