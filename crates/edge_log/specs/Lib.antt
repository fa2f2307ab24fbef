-- What the contracts cite.
pub mod Ending
