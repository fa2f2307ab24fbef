-- What the contracts cite.
pub mod Queues
pub mod Moves
pub mod Calls
pub mod Open
pub mod Read
pub mod Inner
