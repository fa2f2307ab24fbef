-- Laws of the gathered directory.
pub mod Gathered
pub mod Gathering
pub mod Many
