pub mod Agents
pub mod Worlds
pub mod Moments
pub mod Promise
