-- Lemmas on the text of an answer.
pub mod Commas
pub mod Plain
