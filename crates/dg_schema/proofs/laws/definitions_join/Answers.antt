use Rattle.dg_schema.proofs.Joining.{definition_joined, distinct_joined, joined_in_place, names_joined}
use Rattle.dg_schema.proofs.laws.definitions_join.Goals as goal

pub returns : goal.returns
returns c = record { newer_first = definition_joined; distinct = distinct_joined; in_place = joined_in_place; names = names_joined }
