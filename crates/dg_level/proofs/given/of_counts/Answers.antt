use Rattle.std.proofs.Common.{◌≡◌, map, ap, ◌∙◌}
use Rattle.std.specs.Prelude.{pos}
use Rattle.dg_values.specs.declared.value.Value.TheVariants as kinds
use Rattle.dg_funcs.specs.Truth.{count_along}
use Rattle.dg_level.proofs.GivenLaws.{counted}
use Rattle.dg_level.proofs.given.of_counts.Goals as goal

pub returns : goal.returns
returns g c =
    let graph = g.S.Snapshot.graph c.args.snap.now in
    let e = c.args.edge.now in
    let nodes = c.args.nodes.now in
    let counts : c.from_vec.result ≡ map (λ n. kinds.Int (pos (count_along graph e n))) nodes =
    c.from_vec.ensures ∙ (c.in_ok-counts.ensures ∙ ap (map (λ n. kinds.Int (pos (count_along graph e n)))) c.as_slice.ensures.items) in
    (λ j. record { nodes = c.in_ok-nodes.ensures j; values = counts j }) ∙ counted graph e nodes
