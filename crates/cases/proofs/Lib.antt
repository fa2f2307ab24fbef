-- The table, and the largest record.
pub mod Records
pub mod Openings
pub mod Files
pub mod Table
pub mod Largest
