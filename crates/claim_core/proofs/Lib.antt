pub mod ClaimsFound
pub mod Fitting
pub mod Formats
pub mod Leading
pub mod Listed
pub mod Walked
