use Rattle.std.proofs.Common.{rules, ◌≡◌, ◌<◌, length, [], ◌∷◌, ◌++◌}
use Rattle.dg_check.specs.declared.parts.Parts.{Parts}
use Rattle.dg_check.specs.Parts.{IsBlockOf, AreBlocksOf, asked_of_block}
use Rattle.dg_check.proofs.PartLaws.{turn, block_added}
use Rattle.dg_check.proofs.building.parts_of.Goals as goal

pub loop-block-preserved : goal.loop-block-preserved
loop-block-preserved c =
    let i = c.loop-block.block-index in
    let items = c.args.blocks.now in
    let within : i < length items = search rules in
    let pushed : c.push.new.self.items ≡ c.loop-block.out.items ++ c.in_ok-next.next ∷ [] = search rules in
    λ schema ds. turn schema ds asked_of_block (IsBlockOf schema ds) (AreBlocksOf schema ds) (λ (k : Parts). k ∷ []) (λ bs ks b k are is_. block_added schema ds bs ks b k are is_)
    items i c.block-item.result c.in_ok-next.next c.block_of.result c.loop-block.out.items c.push.new.self.items _ c.loop-block.reads.items c.block_of.new.reads.items
    within c.block-item.is c.in_ok-next.was (λ after. c.block_of.ensures schema ds after) pushed (c.loop-block.invariant schema ds)
