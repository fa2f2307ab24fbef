-- What the contracts cite.
pub mod Parts
pub mod Overlays
