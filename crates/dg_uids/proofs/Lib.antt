pub mod Filters
pub mod Galloping
pub mod Paging
pub mod Runs
