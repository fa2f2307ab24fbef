-- The laws, for other crates to cite.
pub mod Arrays
pub mod Laid
pub mod Parts
pub mod Laws
pub mod Heads
pub mod Broken
pub mod RoundTrip
pub mod Rows
