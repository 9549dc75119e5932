-- What the proofs of the grammar share.
pub mod Few
pub mod OwnKeys
pub mod Slotted
