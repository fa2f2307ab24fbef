-- What the contracts cite.
pub mod Begin
pub mod ClearReplay
