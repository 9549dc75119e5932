-- Lemmas on keys.
pub mod Ascents
pub mod ByteOrder
pub mod Carried
pub mod Digits
pub mod KindsFirst
pub mod Pushed
pub mod Spelled
