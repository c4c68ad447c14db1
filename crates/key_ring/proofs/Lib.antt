pub mod RingTexts
pub mod MadeRings
pub mod EnvelopeFields
pub mod Checked
pub mod LoadedTexts
pub mod Kept
pub mod Reloaded
