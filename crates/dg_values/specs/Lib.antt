-- What lists, moments and values are, how they are read, printed and ordered.
pub mod formers
pub mod Instant
pub mod Order
pub mod Ascending
pub mod Calendar
pub mod Forms
pub mod Printing
pub mod Reading
pub mod Scanning
