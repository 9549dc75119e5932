use Rattle.std.proofs.Common.{◌≡◌, take, map}
use Rattle.dg_values.specs.declared.value.Posting.TheVariants as postings
use Rattle.dg_funcs.proofs.comparing.objects_of.Given as goal

abbrev pub invariant-loop-value : goal.invariant-loop-value
invariant-loop-value l = l.objects.items ≡ map (λ value. postings.Val value) (take l.value-index l.values)
