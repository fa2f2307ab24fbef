pub mod Fault
pub mod Inner
pub mod Replay
pub mod Run
pub mod Sum
