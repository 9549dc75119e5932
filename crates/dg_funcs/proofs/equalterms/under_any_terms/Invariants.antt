use Rattle.std.proofs.Common.{◌≡◌, take, flat_map}
use Rattle.dg_funcs.specs.Listed.{under_terms}
use Rattle.dg_funcs.proofs.equalterms.under_any_terms.Given as goal

-- those of the values so far
abbrev pub invariant-loop-value : goal.invariant-loop-value
invariant-loop-value g l = l.found.items ≡ flat_map (under_terms (g.S.Snapshot.graph l.snap) l.p) (take l.value-index l.values)
