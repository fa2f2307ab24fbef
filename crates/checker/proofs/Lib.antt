-- The laws, for other crates to cite.
pub mod Across
pub mod Answers
pub mod Append
pub mod Calls
pub mod Cutting
pub mod Kept
pub mod Lasting
pub mod Moved
pub mod Readers
pub mod Rules
pub mod Run
pub mod Seen
pub mod Sound
pub mod Ways
