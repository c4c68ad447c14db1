pub mod Picking
pub mod Joining
pub mod Telling
