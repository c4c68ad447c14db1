pub mod RuleNames
pub mod LineRules
pub mod Refusals
pub mod Positions
pub mod WordLists
