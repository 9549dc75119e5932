pub mod Decisions
pub mod OpLaws
pub mod Passes
