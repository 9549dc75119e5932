-- What is wrong with a query, and in which order its blocks run.
pub mod Places
pub mod Names
pub mod Variables
pub mod Blocks
pub mod Cycles
pub mod RunOrder
pub mod Faults
pub mod Patterns
pub mod Plans
pub mod Parts
pub mod Outcomes
pub mod Search
pub mod Numbers
pub mod Vars
