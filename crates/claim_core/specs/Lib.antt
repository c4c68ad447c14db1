pub mod Limits
pub mod Chains
pub mod Certificates
pub mod FirstBroken
pub mod ClaimTexts
pub mod ClaimReading
pub mod ClaimFaults
pub mod Walks
