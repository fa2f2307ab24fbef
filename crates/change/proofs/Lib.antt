-- The laws, for other crates to cite: the rules of a list taken apart; what they say of one kind's keys; what an insert is to do, and means; that
-- every call keeps the rules; what is known of each key in use; the length of its record.
pub mod Rules
pub mod OneKind
pub mod Fitting
pub mod Accepted
pub mod Meaning
pub mod Kept
pub mod Listed
pub mod Sizes
