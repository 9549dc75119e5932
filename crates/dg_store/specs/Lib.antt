-- A store as a map from keys to posting lists.
pub mod Stores
