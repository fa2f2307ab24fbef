-- What the table names.
pub mod Records
pub mod Files
pub mod Table
pub mod Full
