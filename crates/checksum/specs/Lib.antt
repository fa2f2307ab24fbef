-- What the contracts cite.
pub mod Checksum
pub mod Inner
pub mod Tables
