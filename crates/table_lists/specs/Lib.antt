-- What is known of posting lists and stores between rows.
pub mod Kept
