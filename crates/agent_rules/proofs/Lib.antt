pub mod Escrowing
pub mod Lending
