-- The laws, for other crates to cite.
pub mod Again
pub mod Cleared
pub mod Ended
pub mod Meaning
pub mod Walk
