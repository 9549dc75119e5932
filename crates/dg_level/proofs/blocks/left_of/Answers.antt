use Rattle.std.proofs.Common.{◌≡◌, ℕ, List, ap, ◌∙◌, subst}
use Rattle.std.specs.Prelude.{false, IfOk}
use Rattle.std.specs.Ordering.{nat_cmp}
use Rattle.dg_values.specs.Ascending.{ascending}
use Rattle.dg_parse.specs.declared.query.QField.{QField}
use Rattle.dg_check.specs.declared.parts.Field.{Field as Kept}
use Rattle.dg_level.specs.Left.{AreLeft}
use Rattle.dg_level.specs.Blocks.{left_of_block}
use Rattle.dg_level.specs.Shown.{cascades, remaining}
use Rattle.dg_level.specs.Planned.{planned_there}
use Rattle.dg_level.proofs.MeaningLaws.{planned_there_means}
use Rattle.dg_level.proofs.blocks.left_of.Goals as goal

pub returns-clause-list : goal.returns-clause-list
returns-clause-list g c = λ ds lawful kinds is.
    let schema = g.S.Snapshot.declared c.args.snap.now in
    let graph = g.S.Snapshot.graph c.args.snap.now in
    let vars = c.args.vars.now.variables in
    let block = c.args.block.now in
    let kept = c.args.kept.now in
    let list = c.args.list.items in
    let flag : c.cascades.result ≡ cascades false block.dirs = c.cascades.ensures ∙ ap (cascades false) c.as_slice.ensures in
    let e : remaining c.cascades.result (planned_there schema graph vars c.as_slice-2.result.now c.as_slice-3.result.now) list ≡ left_of_block schema graph ds vars block list =
    (λ i. remaining (flag i) (planned_there schema graph vars (c.as_slice-2.ensures i) (c.as_slice-3.ensures i)) list)
    ∙ (λ i. remaining (cascades false block.dirs) (λ n. planned_there_means schema ds graph vars lawful kinds c.meanings.ensures.filters block.fields kept.fields is.fields n i) list) in
    subst (λ (left : List ℕ). IfOk c.left_list.result (λ v. v.list.items ≡ left)) e c.left_list.ensures.list

pub returns-clause-inside : goal.returns-clause-inside
returns-clause-inside g c =
    let schema = g.S.Snapshot.declared c.args.snap.now in
    let graph = g.S.Snapshot.graph c.args.snap.now in
    let vars = c.args.vars.now.variables in
    let kept = c.args.kept.now in
    subst (λ (ks : List Kept). IfOk c.left_list.result (λ v. AreLeft schema graph vars c.args.block.now.fields ks (ascending nat_cmp v.list.items) v.inside)) c.as_slice-3.ensures
    (subst (λ (qs : List QField). IfOk c.left_list.result (λ v. AreLeft schema graph vars qs c.as_slice-3.result.now (ascending nat_cmp v.list.items) v.inside)) c.as_slice-2.ensures c.left_list.ensures.inside)
