pub mod Begins
pub mod Faults
pub mod Formats
pub mod Mapped
pub mod Parts
pub mod Steps
