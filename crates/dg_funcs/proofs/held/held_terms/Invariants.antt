use Rattle.std.proofs.Common.{◌≡◌, take}
use Rattle.std.specs.Prelude.{filter}
use Rattle.std.specs.List.{list_any}
use Rattle.dg_funcs.specs.Tests.{has_asked}
use Rattle.dg_funcs.specs.Truth.{texts_at}
use Rattle.dg_funcs.proofs.held.held_terms.Given as goal

abbrev pub invariant-loop-node : goal.invariant-loop-node
invariant-loop-node g l = l.found.items ≡ filter (λ n. list_any (has_asked l.all l.asked) (texts_at (g.S.Snapshot.graph l.snap) l.p n)) (take l.node-index l.node-items)
