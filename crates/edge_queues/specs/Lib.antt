-- What the contracts cite.
pub mod Queueing
