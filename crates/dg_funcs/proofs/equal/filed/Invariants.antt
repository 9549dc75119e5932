use Rattle.std.proofs.Common.{◌≡◌, ◌+◌, take, flat_map}
use Rattle.dg_graph.specs.Lookups.{subjects_where, has_token}
use Rattle.dg_funcs.specs.Equal.{token}
use Rattle.dg_funcs.proofs.equal.filed.Given as goal

-- those of the values so far, and a read for each
abbrev pub invariant-loop-value : goal.invariant-loop-value
invariant-loop-value g l =
    (l.found.items ≡ flat_map (λ v. subjects_where (has_token (token l.tokenizer v)) (g.S.Snapshot.graph l.snap) l.p) (take l.value-index l.values))
    × (l.reads ≡ l.initial.reads + l.value-index)
