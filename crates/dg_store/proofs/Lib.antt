pub mod PartLemmas
pub mod StoreLemmas
