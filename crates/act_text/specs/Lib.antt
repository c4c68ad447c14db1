pub mod ActTexts
pub mod ActReading
pub mod StatementTexts
pub mod ActFaults
