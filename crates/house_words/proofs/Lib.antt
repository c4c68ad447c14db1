pub mod HexPairs
pub mod WordFronts
pub mod TailFound
pub mod TailRead
pub mod PlainValues
pub mod KeywordTexts
