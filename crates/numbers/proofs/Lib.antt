-- The laws, for other crates to cite.
pub mod Laws
pub mod Methods
pub mod Sort
pub mod QueueLists
pub mod Spots
