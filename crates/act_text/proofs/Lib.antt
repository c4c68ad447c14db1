pub mod ActFormats
pub mod ActTexts
