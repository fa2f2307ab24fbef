-- What the contracts cite: what a list's entries do to the shared overlays and to the last ids; then what is known of a place.
pub mod Listed
pub mod Inner
