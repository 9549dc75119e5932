-- What mutations say.
pub mod Words
pub mod Grammar
pub mod Whole
pub mod Plain
pub mod Grouped
pub mod Laws
pub mod Texts
pub mod Readable
