use Rattle.std.proofs.Common.{◌≡◌, take, false}
use Rattle.std.specs.List.{list_any}
use Rattle.dg_funcs.specs.Listed.{lacks_terms}
use Rattle.dg_funcs.proofs.equalterms.any_lacks_terms.Given as goal

-- none so far
abbrev pub invariant-loop-value : goal.invariant-loop-value
invariant-loop-value l = list_any lacks_terms (take l.value-index l.values) ≡ false
