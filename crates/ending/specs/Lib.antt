-- What the contracts cite: the end of a record, and what the inner functions are told.
pub mod EndRecord
pub mod Inner
