-- Ascending lists of uids as sets, and their pages.
pub mod Sets
