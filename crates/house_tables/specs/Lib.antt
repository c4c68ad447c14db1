pub mod Lines
pub mod Rows
pub mod Printing
pub mod Tables
