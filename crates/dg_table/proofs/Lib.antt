-- What the proofs of tables share.
pub mod RowLemmas
pub mod TestLemmas
pub mod WordLemmas
