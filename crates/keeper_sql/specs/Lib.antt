pub mod Statements
pub mod CellRows
