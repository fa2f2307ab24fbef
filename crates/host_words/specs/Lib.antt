-- What the contracts cite: each state of a host as words, and the words as a state.
pub mod Tables
pub mod Head
pub mod Reader
pub mod Change
pub mod Overlays
pub mod Inner
