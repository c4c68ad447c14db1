pub mod Misled
pub mod Torn
