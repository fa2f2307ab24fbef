-- What the contracts cite.
pub mod Clear
pub mod EndRead
pub mod Inner
