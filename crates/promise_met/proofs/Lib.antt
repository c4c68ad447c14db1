pub mod Dealing
pub mod Signing
pub mod Running
pub mod Meeting
pub mod Forging
