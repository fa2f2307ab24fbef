-- The laws, for other crates to cite: the bytes found are an entry's; what is copied; what a lookup finds, and what it finds after a put or a
-- removal; where the bytes lie, of one key and of many.
pub mod Found
pub mod Copies
pub mod Looks
pub mod Places
