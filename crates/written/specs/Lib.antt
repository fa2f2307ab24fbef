-- What the theorems are stated with: the actions that a list is written as, and where in the image its keys and drops lie.
pub mod Actions
pub mod Tables
