-- What the contracts cite.
pub mod Listed
pub mod Names
pub mod Logs
pub mod Found
pub mod Inner
