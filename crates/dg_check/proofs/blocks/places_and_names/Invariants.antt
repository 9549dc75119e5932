use Rattle.std.proofs.Common.{◌≡◌, take, flat_map}
use Rattle.dg_check.specs.Places.{places_met, places_of_block}
use Rattle.dg_check.specs.Blocks.{names_of_blocks}
use Rattle.dg_check.proofs.blocks.places_and_names.Given as goal

abbrev pub invariant-loop-block : goal.invariant-loop-block
invariant-loop-block l =
    let done = take l.block-index l.blocks in
    (places_met l.places.items ≡ flat_map places_of_block done) × (l.names.items ≡ names_of_blocks done)
