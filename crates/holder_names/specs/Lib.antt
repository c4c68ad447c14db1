pub mod Holders
pub mod Directories
