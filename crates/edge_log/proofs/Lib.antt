-- The laws, for other crates to cite.
pub mod Memories
pub mod Refused
