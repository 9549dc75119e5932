use Rattle.std.proofs.Common.{◌≡◌, take}
use Rattle.std.specs.Prelude.{filter}
use Rattle.std.specs.List.{list_any}
use Rattle.regex.specs.Strings.{regex_pattern, matcher_pattern}
use Rattle.dg_funcs.specs.Truth.{texts_at, found_in}
use Rattle.dg_funcs.proofs.held.held_matching.Given as goal

abbrev pub invariant-loop-node : goal.invariant-loop-node
invariant-loop-node g l = (l.found.items ≡ filter (λ n. list_any (found_in (regex_pattern l.pattern)) (texts_at (g.S.Snapshot.graph l.snap) l.p n)) (take l.node-index l.node-items)) × (matcher_pattern l.matcher ≡ regex_pattern l.pattern)
