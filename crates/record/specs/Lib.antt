pub mod Fault
pub mod Format
pub mod Inner
pub mod Next
pub mod Record
pub mod Steps
