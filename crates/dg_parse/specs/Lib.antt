-- The grammar of queries and of upsert blocks.
pub mod Sizes
pub mod Texts
pub mod Words
pub mod Names
pub mod Literals
pub mod Functions
pub mod Filters
pub mod Arguments
pub mod Directives
pub mod Keys
pub mod Slots
pub mod Fields
pub mod Grammar
pub mod Conditions
pub mod Upsert
pub mod Whole
