-- What the contracts cite.
pub mod Queues
pub mod Inner
