-- Open transactions beside a history, and what is looked up in a graph.
pub mod Opened
pub mod Questions
