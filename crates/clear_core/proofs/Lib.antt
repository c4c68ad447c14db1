pub mod Conserved
pub mod Escrowed
mod Examples
pub mod Finding
pub mod FirstOver
pub mod Funding
pub mod Least
pub mod Moved
pub mod PairOrder
pub mod Texts
pub mod Totals
pub mod Transfers
