-- The laws, for other crates to cite.
pub mod Rule
pub mod Made
pub mod Gather
pub mod Clean
pub mod Kept
pub mod CleanKept
pub mod KeepsRules
pub mod NoneLost
pub mod ReadOf
pub mod ReadKept
pub mod Mapped
pub mod OpenKept
pub mod QueueOrder
