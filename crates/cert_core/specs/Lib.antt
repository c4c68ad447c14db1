pub mod Sets
pub mod Quorums
pub mod SeatTexts
pub mod SharedSeats
pub mod SetReading
pub mod SetFaults
pub mod QuorumFaults
