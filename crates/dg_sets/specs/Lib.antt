-- Where an item is among items that ascend, or where it belongs.
pub mod Placing
