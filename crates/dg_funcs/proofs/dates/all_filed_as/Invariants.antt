use Rattle.std.proofs.Common.{◌≡◌, take, map}
use Rattle.std.specs.Prelude.{Some}
use Rattle.dg_funcs.specs.Filed.{filed_as}
use Rattle.dg_funcs.proofs.dates.all_filed_as.Given as goal

-- those of the values so far
abbrev pub invariant-loop-value : goal.invariant-loop-value
invariant-loop-value l = map (λ w. Some w) l.found.items ≡ map (filed_as l.tokenizer) (take l.value-index l.values)
