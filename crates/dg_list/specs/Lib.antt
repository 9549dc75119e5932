-- Posting lists: a base, and layers of operations above it.
pub mod Lists
pub mod Gathered
pub mod Ranks
pub mod Links
