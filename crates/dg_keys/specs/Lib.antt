-- Keys of posting lists, keys by which commits conflict, and records.
pub mod Keys
pub mod Conflicts
pub mod KeyOrder
pub mod KeyBytes
pub mod KeyReading
pub mod Tablets
