-- What the contracts cite, in reading order: a list whole and its rules, what an insert does, what a drop does, the length of its record, the
-- values of one table; a list whose rules are kept.
pub mod Change
pub mod Insert
pub mod Drop
pub mod Size
pub mod Values
pub mod Ruled
