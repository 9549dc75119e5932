-- What recursion over fetched edges shows.
pub mod Unfolding
pub mod Rows
pub mod Columns
pub mod Written
pub mod Near
pub mod Ways
pub mod Laws
