use Rattle.std.proofs.Common.{◌≡◌, take}
use Rattle.dg_check.specs.Blocks.{names_of_blocks}
use Rattle.dg_check.proofs.blocks.names_of_blocks.Given as goal

abbrev pub invariant-loop-block : goal.invariant-loop-block
invariant-loop-block l = l.names.items ≡ names_of_blocks (take l.block-index l.blocks)
