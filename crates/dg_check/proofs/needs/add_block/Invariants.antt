use Rattle.std.proofs.Common.{◌≡◌, ℕ, List, ◌++◌, map, take}
use Rattle.dg_check.specs.Names.{is_name_in}
use Rattle.dg_check.specs.RunOrder.{blocks_under, alone_where}
use Rattle.dg_check.proofs.needs.add_block.Given as goal

-- the names so far, and what is under each name
abbrev pub invariant-loop-name : goal.invariant-loop-name
invariant-loop-name l = (l.had ≡ map (λ name. name.now) (take l.name-index l.names)) × ((x : List ℕ) → blocks_under l.under x ≡ blocks_under l.initial.under x ++ alone_where (is_name_in l.had x) l.at)
