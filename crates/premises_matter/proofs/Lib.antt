pub mod Parts
pub mod Misleading
pub mod Tearing
