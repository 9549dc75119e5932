-- Ascending lists of postings: places in them, and their nodes as packed bytes.
pub mod Places
pub mod Packed
pub mod Unpacked
pub mod Starts
pub mod Cursors
