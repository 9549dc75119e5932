use Rattle.std.proofs.Common.{◌≡◌}
use Rattle.std.specs.List.{AllByRecursion}
use Rattle.dg_list.specs.Lists.{reading}
use Rattle.dg_store.specs.Stores.{list_at, bases_of}
use Rattle.table_lists.proofs.kept_store.KeptStore.bases.Given as goal

abbrev pub invariant-loop-key : goal.invariant-loop-key
invariant-loop-key l = AllByRecursion (λ b. b.1 ≡ reading (list_at b.0 l.self) l.upto) (bases_of l.bases.items)
