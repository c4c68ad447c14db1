pub mod DealTexts
pub mod Postings
pub mod AdmitFaults
pub mod VoteLogs
pub mod Rebuilding
