pub mod Promise
pub mod Read
pub mod Taken
pub mod Written
pub mod OneAnswer
