pub mod ReadTexts
pub mod Posted
pub mod Kept
pub mod Rebuilt
pub mod Taking
