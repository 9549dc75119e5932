-- A rule over a table of verbs.
pub mod Verbs
