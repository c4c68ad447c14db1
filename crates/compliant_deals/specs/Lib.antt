pub mod Parts
pub mod Complying
pub mod Seeing
pub mod CommitLogs
