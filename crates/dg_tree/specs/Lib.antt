-- The text of an answer.
pub mod Texts
pub mod Plain
