use Rattle.std.proofs.Common.{◌≡◌, ◌<◌, ℕ, false, List, map, sym, ap, ◌∙◌, subst}
use Rattle.std.specs.Prelude.{IfOk}
use Rattle.dg_parse.specs.declared.query.QField.{QField}
use Rattle.dg_check.specs.declared.parts.Field.{Field as Kept}
use Rattle.dg_tree.specs.declared.tree.Field.{Field}
use Rattle.dg_level.specs.Left.{AreLeft}
use Rattle.dg_level.specs.Shown.{cascades, objects_at}
use Rattle.dg_level.specs.Planned.{planned_flats}
use Rattle.dg_level.specs.FlatLevels.{weight_of}
use Rattle.dg_level.proofs.MeaningLaws.{planned_flats_mean}
use Rattle.dg_level.proofs.flat_arrays.block_flats.Goals as goal

pub returns-clause-flats : goal.returns-clause-flats
returns-clause-flats g c = λ ds lawful kinds is known.
    let schema = g.S.Snapshot.declared c.args.snap.now in
    let graph = g.S.Snapshot.graph c.args.snap.now in
    let vars = c.args.vars.now.variables in
    let block = c.args.block.now in
    let cascade = cascades false block.dirs in
    let flag : c.cascades.result ≡ cascade = c.cascades.ensures ∙ ap (cascades false) c.as_slice.ensures in
    let read : map (planned_flats schema graph vars c.cascades.result c.as_slice-2.result.now c.as_slice-3.result.now) c.as_slice-4.result.now ≡ map (planned_flats schema graph vars cascade block.fields c.args.kept.now.fields) c.args.level.now =
    λ i. map (planned_flats schema graph vars (flag i) (c.as_slice-2.ensures i) (c.as_slice-3.ensures i)) (c.as_slice-4.ensures.items i) in
    let mean : map (planned_flats schema graph vars cascade block.fields c.args.kept.now.fields) c.args.level.now ≡ map (objects_at schema graph ds vars cascade block.fields) c.args.level.now =
    λ i. map (λ n. planned_flats_mean schema ds graph vars lawful kinds c.meanings.ensures.filters cascade block.fields c.args.kept.now.fields is.fields n i) c.args.level.now in
    let seen : AreLeft schema graph vars c.as_slice-2.result.now c.as_slice-3.result.now c.as_slice-4.result.now c.args.left =
    subst (λ (ns : List ℕ). AreLeft schema graph vars c.as_slice-2.result.now c.as_slice-3.result.now ns c.args.left) (sym c.as_slice-4.ensures.items)
    (subst (λ (ks : List Kept). AreLeft schema graph vars c.as_slice-2.result.now ks c.args.level.now c.args.left) (sym c.as_slice-3.ensures)
    (subst (λ (qs : List QField). AreLeft schema graph vars qs c.args.kept.now.fields c.args.level.now c.args.left) (sym c.as_slice-2.ensures) known)) in
    subst (λ (all : List (List (List Field))). IfOk c.level_flats.result (λ v. v.items ≡ all)) (read ∙ mean) (c.level_flats.ensures.flats seen)

pub returns-clause-too_large : goal.returns-clause-too_large
returns-clause-too_large g c = λ ds lawful kinds is known over.
    let schema = g.S.Snapshot.declared c.args.snap.now in
    let graph = g.S.Snapshot.graph c.args.snap.now in
    let vars = c.args.vars.now.variables in
    let block = c.args.block.now in
    let cascade = cascades false block.dirs in
    let flag : c.cascades.result ≡ cascade = c.cascades.ensures ∙ ap (cascades false) c.as_slice.ensures in
    let read : weight_of (planned_flats schema graph vars c.cascades.result c.as_slice-2.result.now c.as_slice-3.result.now) c.as_slice-4.result.now ≡ weight_of (planned_flats schema graph vars cascade block.fields c.args.kept.now.fields) c.args.level.now =
    λ i. weight_of (planned_flats schema graph vars (flag i) (c.as_slice-2.ensures i) (c.as_slice-3.ensures i)) (c.as_slice-4.ensures.items i) in
    let mean : weight_of (planned_flats schema graph vars cascade block.fields c.args.kept.now.fields) c.args.level.now ≡ weight_of (objects_at schema graph ds vars cascade block.fields) c.args.level.now =
    λ i. weight_of (λ n. planned_flats_mean schema ds graph vars lawful kinds c.meanings.ensures.filters cascade block.fields c.args.kept.now.fields is.fields n i) c.args.level.now in
    let seen : AreLeft schema graph vars c.as_slice-2.result.now c.as_slice-3.result.now c.as_slice-4.result.now c.args.left =
    subst (λ (ns : List ℕ). AreLeft schema graph vars c.as_slice-2.result.now c.as_slice-3.result.now ns c.args.left) (sym c.as_slice-4.ensures.items)
    (subst (λ (ks : List Kept). AreLeft schema graph vars c.as_slice-2.result.now ks c.args.level.now c.args.left) (sym c.as_slice-3.ensures)
    (subst (λ (qs : List QField). AreLeft schema graph vars qs c.args.kept.now.fields c.args.level.now c.args.left) (sym c.as_slice-2.ensures) known)) in
    subst (λ (t : ℕ). 16777216 < t) (read ∙ mean) (c.level_flats.ensures.too_large seen over)
