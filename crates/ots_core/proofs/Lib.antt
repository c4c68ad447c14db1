mod Examples
pub mod Ranges
pub mod ChainSteps
pub mod Ends
pub mod Ways
pub mod Stores
pub mod Groups
pub mod Signed
pub mod Incomparable
pub mod SignatureTexts
