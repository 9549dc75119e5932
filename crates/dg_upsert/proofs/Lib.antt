-- Lemmas on the statements for which those of an upsert block stand.
pub mod ConditionLaws
pub mod GivingLaws
pub mod PlainLaws
