-- The laws of sets of rows, by subject.
pub mod Words
pub mod Links
pub mod Masks
pub mod LabelLaws
pub mod MemberWalks
pub mod Gathers
pub mod Checks
pub mod LinkLists
pub mod RowFilters
pub mod PartLaws
pub mod PartWalks
pub mod Roots
pub mod Walks
