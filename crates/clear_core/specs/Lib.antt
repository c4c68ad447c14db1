pub mod Clearing
pub mod Holdings
pub mod Plans
pub mod Pairs
pub mod TermsKept
pub mod TermFaults
pub mod Summaries
