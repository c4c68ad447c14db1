pub mod AgentOpenFaults
pub mod WantedTexts
pub mod AgentSeen
pub mod AgentTables
pub mod AgentDoes
pub mod Offers
pub mod AgentRows
pub mod AgentOpens
