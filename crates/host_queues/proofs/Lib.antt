-- The laws, for other crates to cite.
pub mod Laid
pub mod Heads
pub mod RoundTrip
