-- Groups in step with histories.
pub mod Lists
pub mod Leads
pub mod Between
mod Copies
pub mod Applied
pub mod Entries
mod Tablets
pub mod Alters
mod CopyPlaces
mod Whole
