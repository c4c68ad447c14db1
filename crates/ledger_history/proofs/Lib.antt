pub mod Elements
pub mod Fronts
pub mod Reaching
pub mod Moving
pub mod Escrowing
pub mod Turns
pub mod Settled
pub mod Known
