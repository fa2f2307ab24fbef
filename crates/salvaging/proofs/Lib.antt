pub mod Accepted
pub mod Begins
pub mod Calls
pub mod Cases
pub mod Copied
mod FirstTag
pub mod Held
pub mod KeptWhole
pub mod Listed
pub mod Moved
pub mod OneList
pub mod Outcome
pub mod Records
pub mod Rest
pub mod Seeking
