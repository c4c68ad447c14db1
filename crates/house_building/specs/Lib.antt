pub mod Bindings
pub mod Flipping
pub mod Messages
pub mod Builds
