use Rattle.std.proofs.Common.{◌≡◌}
use Rattle.std.specs.Prelude.{nat_le}
use Rattle.std.specs.List.{list_any}
use Rattle.dg_list.proofs.plist.PList.layered.Given as goal

abbrev pub invariant-loop-list : goal.invariant-loop-list
invariant-loop-list l = list_any (λ k. nat_le k.ts l.upto) l.self.layers ≡ list_any (λ k. nat_le k.ts l.upto) l.list.layers
