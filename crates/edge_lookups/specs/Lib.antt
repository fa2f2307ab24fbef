-- What the contracts cite.
pub mod Lookups
