pub mod Endings
pub mod Answers
pub mod Commands
pub mod Inputs
