pub mod Histories
pub mod PlannedActs
