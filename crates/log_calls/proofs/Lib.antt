-- The theorems over several parts, for other crates to cite.
pub mod Begins
pub mod EndThenRead
pub mod Kept
