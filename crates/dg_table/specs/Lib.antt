-- What a table of names and codes is, and what it answers.
pub mod Rows
pub mod Tests
pub mod Words
