pub mod Spelling
pub mod Said
pub mod SaidDeclarations
pub mod SaidBuildings
pub mod SaidTexts
pub mod SaidEvents
pub mod Holders
