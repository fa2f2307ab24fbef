-- The laws, for other crates to cite.
pub mod NameLaws
pub mod SameName
pub mod Listed
pub mod SortLaws
pub mod Steps
pub mod Found
pub mod Order
pub mod Answers
pub mod Cases
