use Rattle.std.proofs.Common.{◌≡◌, not, take}
use Rattle.std.specs.Prelude.{filter}
use Rattle.std.specs.List.{list_any, list_all}
use Rattle.dg_funcs.specs.Truth.{passes}
use Rattle.dg_funcs.proofs.filtering.+passing.Given as goal

-- those at which each part so far holds
abbrev pub invariant-passing_all-loop-part : goal.invariant-passing_all-loop-part
invariant-passing_all-loop-part g l = l.left ≡ filter (λ n. list_all (passes (g.S.Snapshot.graph l.snap) l.vars.variables n) (take l.part-index l.parts)) l.nodes

-- those at which none so far holds
abbrev pub invariant-passing_any-loop-part : goal.invariant-passing_any-loop-part
invariant-passing_any-loop-part g l = l.rest ≡ filter (λ n. not (list_any (passes (g.S.Snapshot.graph l.snap) l.vars.variables n) (take l.part-index l.parts))) l.nodes
