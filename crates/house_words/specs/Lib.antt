pub mod Spelled
pub mod Tails
pub mod WordKinds
pub mod Keywords
