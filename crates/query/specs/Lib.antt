-- What the contracts cite: what a lookup answers, where the bytes lie and lookups of many keys, then what the inner functions hand on.
pub mod Query
pub mod Places
pub mod Inner
