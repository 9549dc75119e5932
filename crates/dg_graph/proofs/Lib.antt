-- Laws of graphs and changes, which crates above cite.
pub mod GraphLaws
pub mod ObjectLaws
pub mod Passing
pub mod LookUpLaws
pub mod SubjectRuns
mod EitherWay
