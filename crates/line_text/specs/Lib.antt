pub mod Lines
pub mod Words
pub mod Numbers
pub mod IdWords
pub mod Reading
pub mod Faults
pub mod Bytes
pub mod Seen
