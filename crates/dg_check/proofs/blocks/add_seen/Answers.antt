use Rattle.std.proofs.Common.{◌≡◌, ◌++◌, ◌∷◌, [], drop, ap, arith, ◌∙◌}
use Rattle.dg_check.specs.Places.{places_met, places_of_block}
use Rattle.dg_check.specs.Blocks.{names_of_block}
use Rattle.dg_check.proofs.PlaceLaws.{places_behind, rest_is}
use Rattle.dg_check.proofs.blocks.add_seen.Goals as goal

pub returns-clause-names : goal.returns-clause-names
returns-clause-names c =
    let block = places_of_block c.args.block.now in
    let behind : places_met (drop c.len-before.result c.as_slice.result.now) ≡ block =
    (λ i. places_met (drop c.len-before.result (c.as_slice.ensures.value i)))
    ∙ places_behind c.args.places.now.items c.add_block.new.out.items c.len-before.result block (omega (arith, c.args.places.now.ok)) c.in_ok-add_block.ensures in
    c.in_ok-push.ensures.items ∙ ap (λ names. c.args.names.now.items ++ names ∷ []) (c.in_ok-own.ensures ∙ ap names_of_block (ap places_met (rest_is c.as_slice.result.now c.len-before.result) ∙ behind))
