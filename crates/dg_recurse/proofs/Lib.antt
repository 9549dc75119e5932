-- Lemmas on what recursion shows.
pub mod RowLaws
pub mod DryLaws
pub mod WayLaws
pub mod WalkLaws
pub mod UnfoldLaws
pub mod NameLaws
pub mod LeafLaws
