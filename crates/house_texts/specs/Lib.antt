pub mod Genesis
pub mod Deals
pub mod Openings
pub mod Settings
