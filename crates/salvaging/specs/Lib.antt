pub mod Salvage
pub mod Meaning
pub mod Inner
