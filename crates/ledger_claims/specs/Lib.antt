pub mod ShowFaults
pub mod ByTables
pub mod Payees
pub mod Settling
pub mod ClaimStep
pub mod Claiming
