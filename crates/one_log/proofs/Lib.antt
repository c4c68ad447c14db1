pub mod Lists
pub mod Kept
pub mod Signed
pub mod Walks
pub mod Together
pub mod Fair
pub mod Entered
