-- The laws, for other crates to cite.
pub mod SalvageLeft
