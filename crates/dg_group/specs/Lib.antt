-- Groups: their copies of tablets, what a record makes of them, and when their lists agree with a history.
pub mod Groups
pub mod Stands
pub mod Laws
