-- What lists of nodes and their trees become.
pub mod Orders
pub mod Keyed
pub mod Asked
pub mod Moves
pub mod Cascade
pub mod Strip
pub mod Whole
pub mod Normalize
pub mod Tallies
