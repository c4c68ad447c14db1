pub mod Characters
pub mod Fields
pub mod Formats
pub mod Moving
pub mod Writing
pub mod NameReading
pub mod SameIds
