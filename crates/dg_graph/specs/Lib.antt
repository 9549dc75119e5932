-- Graphs, what changes make of them, and what holds of both.
pub mod Graphs
pub mod Lookups
pub mod Changes
pub mod Laws
pub mod Subjects
