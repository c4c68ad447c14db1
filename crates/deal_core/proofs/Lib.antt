pub mod Drafting
mod Examples
pub mod FaultLines
pub mod Finishing
pub mod FirstFault
pub mod Keywords
pub mod OneAnswer
pub mod OneDeal
pub mod SaidAgain
pub mod SaidReading
pub mod Sums
pub mod TextAgain
pub mod TextReading
pub mod Walks
