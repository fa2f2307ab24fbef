pub mod Effect
pub mod Inner
pub mod Meaning
pub mod Order
