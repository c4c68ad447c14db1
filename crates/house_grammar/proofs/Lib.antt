pub mod KeywordFronts
pub mod HolderReading
pub mod DeclarationReading
pub mod TextReading
pub mod BuildingReading
pub mod EventReading
pub mod PlainLines
pub mod LineReading
