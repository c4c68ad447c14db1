pub mod FirstLine
pub mod ReadTo
pub mod Lesser
pub mod NameWords
pub mod NumberWords
