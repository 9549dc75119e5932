use Rattle.std.proofs.Common.{◌≡◌, drop}
use Rattle.std.specs.List.{list_any, list_all}
use Rattle.dg_upsert.specs.Conditions.{holds}
use Rattle.dg_upsert.proofs.conditions.+condition.Given as goal

-- what is left decides
abbrev pub invariant-any_holds-loop-condition : goal.invariant-any_holds-loop-condition
invariant-any_holds-loop-condition l = list_any (holds l.known.names l.known.vars.now.variables) (drop l.condition-index l.conditions) ≡ list_any (holds l.known.names l.known.vars.now.variables) l.conditions

-- what is left decides
abbrev pub invariant-all_hold-loop-condition : goal.invariant-all_hold-loop-condition
invariant-all_hold-loop-condition l = list_all (holds l.known.names l.known.vars.now.variables) (drop l.condition-index l.conditions) ≡ list_all (holds l.known.names l.known.vars.now.variables) l.conditions
