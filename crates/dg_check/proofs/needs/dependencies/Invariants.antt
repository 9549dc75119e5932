use Rattle.std.proofs.Common.{◌≡◌, map, take, flat_map}
use Rattle.dg_check.specs.RunOrder.{blocks_under}
use Rattle.dg_check.proofs.needs.dependencies.Given as goal

abbrev pub invariant-loop-block : goal.invariant-loop-block
invariant-loop-block l = l.deps.items ≡ map (λ block. flat_map (blocks_under l.under) block.used) (take l.block-index l.blocks)
