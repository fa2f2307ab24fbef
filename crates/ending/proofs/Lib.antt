-- The laws, for other crates to cite.
pub mod Decided
pub mod Left
pub mod Meaning
