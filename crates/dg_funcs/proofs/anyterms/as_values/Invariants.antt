use Rattle.std.proofs.Common.{◌≡◌, take, map}
use Rattle.dg_values.specs.declared.value.Value.TheVariants as values
use Rattle.dg_funcs.proofs.anyterms.as_values.Given as goal

abbrev pub invariant-loop-text : goal.invariant-loop-text
invariant-loop-text l = l.made.items ≡ map (λ t. values.Text t) (take l.text-index l.texts)
