-- The laws, for other crates to cite.
pub mod Accepted
pub mod Entries
pub mod Here
pub mod Inserted
pub mod Last
pub mod Lists
pub mod Order
pub mod Parts
pub mod Placed
pub mod Replayed
pub mod Said
pub mod Walk
