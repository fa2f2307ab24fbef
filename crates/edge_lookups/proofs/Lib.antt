-- The laws, for other crates to cite.
pub mod Places
pub mod Copies
pub mod Loaded
