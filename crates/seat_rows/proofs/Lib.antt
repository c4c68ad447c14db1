pub mod Cells
pub mod Standing
pub mod Backing
pub mod Signed
pub mod Listing
pub mod StatesLoaded
pub mod Opened
