-- Where functions and filters hold, and the nodes that a function gives at a root.
pub mod Truth
pub mod Roots
pub mod Tests
pub mod Equal
pub mod Kinds
pub mod Meaning
pub mod Laws
pub mod Filed
pub mod Numbers
pub mod Listed
pub mod Reads
