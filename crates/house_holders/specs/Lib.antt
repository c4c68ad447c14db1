pub mod Holders
pub mod Compliant
pub mod Forgeries
