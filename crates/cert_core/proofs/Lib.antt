pub mod Accounts
pub mod QuorumsFound
pub mod SeatSigs
pub mod SeatTexts
pub mod SetTexts
pub mod SharedSeats
