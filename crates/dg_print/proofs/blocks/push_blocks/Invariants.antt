use Rattle.std.proofs.Common.{◌≡◌, ◌++◌, take}
use Rattle.std.specs.Prelude.{flat_map}
use Rattle.dg_text.specs.Written.{written}
use Rattle.dg_print.specs.PrintedQuery.{block_words}
use Rattle.dg_print.proofs.blocks.push_blocks.Given as goal

abbrev pub invariant-loop-block : goal.invariant-loop-block
invariant-loop-block l = l.out ≡ l.fn.out ++ written (flat_map block_words (take l.block-index l.blocks))
