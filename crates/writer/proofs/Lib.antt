-- The laws, for other crates to cite.
pub mod Answers
pub mod Masks
pub mod Rules
pub mod Sizes
pub mod Words
