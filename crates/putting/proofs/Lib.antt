-- The laws, for other crates to cite.
pub mod Crowds
pub mod Kept
pub mod LastIds
pub mod Long
pub mod Meaning
pub mod Parts
pub mod Places
pub mod Puts
