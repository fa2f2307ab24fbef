-- What the contracts cite.
pub mod Check
pub mod Checker
pub mod Inner
