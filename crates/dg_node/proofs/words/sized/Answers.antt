use Rattle.std.specs.Prelude.{string_bytes, map}
use Rattle.dg_node.proofs.WordLemmas.{if_none, not_sized}
use Rattle.dg_node.proofs.words.sized.Goals as goal

pub returns-in-None-clause-none : goal.returns-in-None-clause-none
returns-in-None-clause-none c =
    let behind = not_sized c.args.name.now (map (λ w. string_bytes w) c.args.words.now) (map (λ w. string_bytes w) c.in_ok-options.options.now) c.in_ok-options.ensures.found c.in-None.ensures.none in
    if_none c.size_first.result behind c.size_first.ensures.none
