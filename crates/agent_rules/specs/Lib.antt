pub mod Twice
pub mod Loans
