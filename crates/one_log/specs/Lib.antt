pub mod Holders
pub mod Houses
pub mod Premises
pub mod Moments
