-- The laws, for other crates to cite.
pub mod Append
pub mod Carry
pub mod Follow
pub mod Looked
pub mod Multiple
pub mod Register
pub mod Vectors
pub mod Words
pub mod Xor
