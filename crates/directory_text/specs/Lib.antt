pub mod Inner
pub mod Line
pub mod Number
pub mod Scan
pub mod Text
