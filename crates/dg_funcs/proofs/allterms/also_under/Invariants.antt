use Rattle.std.proofs.Common.{◌≡◌, ◌+◌, take}
use Rattle.std.specs.Prelude.{filter}
use Rattle.std.specs.List.{list_all}
use Rattle.dg_funcs.specs.Listed.{is_under}
use Rattle.dg_funcs.proofs.allterms.also_under.Given as goal

-- those that are listed under each so far, and a read for each
abbrev pub invariant-loop-value : goal.invariant-loop-value
invariant-loop-value g l =
    (l.left ≡ filter (λ n. list_all (is_under (g.S.Snapshot.graph l.snap) l.p l.tokenizer n) (take l.value-index l.values)) l.initial.left)
    × (l.reads ≡ l.initial.reads + l.value-index)
