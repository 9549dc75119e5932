-- Graphs that are read from pins, and transactions' own changes on top of them.
pub mod Pins
pub mod Own
pub mod Gains
pub mod Existing
pub mod Laws
pub mod Spans
pub mod Walks
