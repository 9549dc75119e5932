use Rattle.std.proofs.Common.{◌≡◌, true, List, [], ◌∷◌, get_or, subst, sym}
use Rattle.dg_graph.specs.declared.change.Change.{Change}
use Rattle.dg_graph.specs.declared.change.Triple.{Triple}
use Rattle.dg_graph.specs.Graphs.{fits, IsLawful}
use Rattle.dg_graph.specs.Changes.{changed}
use Rattle.dg_edges.proofs.AtKeys.{all_at}
use Rattle.dg_edges.proofs.OfferLaws.{lawful_goal}
use Rattle.table_zero.proofs.lawful.made.Goals as goal

pub loop-change-preserved : goal.loop-change-preserved
loop-change-preserved c =
    let schema = c.args.schema.now in
    let change = c.change-item.result in
    let at : fits schema (changed (get_or c.args.changes.now c.loop-change.change-index change)) ≡ true = all_at (λ d. fits schema (changed d) ≡ true) c.args.changes.now c.loop-change.change-index change c.loop-change-test.true c.requires in
    let fit : fits schema (changed change) ≡ true = subst (λ (d : Change). fits schema (changed d) ≡ true) (sym c.change-item.is) at in
    subst (λ (g : List Triple). IsLawful schema g) (sym c.in_ok-apply.ensures.ok) (lawful_goal schema c.loop-change.graph (change ∷ []) (fit, tt) c.loop-change.invariant)
