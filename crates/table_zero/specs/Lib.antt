-- What is known of oracles and of the state that coordinates all between rows, what is looked up in a graph, and what stands
-- beside a state of Zero.
pub mod Kept
pub mod Questions
pub mod Steps
pub mod Mirrors
