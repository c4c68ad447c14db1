pub mod Loan
pub mod Run
