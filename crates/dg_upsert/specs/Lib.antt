-- What the mutations of an upsert block stand for.
pub mod Conditions
pub mod Meaning
pub mod Laws
