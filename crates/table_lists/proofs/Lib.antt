-- Lemmas on what is known of posting lists and stores.
mod Within
mod KeptLists
