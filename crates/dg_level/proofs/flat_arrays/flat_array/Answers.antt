use Rattle.std.proofs.Common.{◌≡◌, ℕ, ◌<◌, false, List, ◌++◌, map, flat_map, rules, sym, ◌∙◌, subst}
use Rattle.dg_tree.specs.declared.tree.Tree.TheVariants as trees
use Rattle.dg_tree.specs.Texts.{array_text, tree_text}
use Rattle.dg_level.specs.Left.{AreLeft}
use Rattle.dg_level.specs.Rows.{AreOfLevel}
use Rattle.dg_level.specs.Shown.{cascades, objects_at}
use Rattle.dg_level.specs.FlatLevels.{FlatsOf, weight_of}
use Rattle.dg_level.proofs.BlockLaws.{all_there}
use Rattle.dg_level.proofs.FlatArrays.{array_is, weight_passes, array_passes}
use Rattle.dg_level.proofs.flat_arrays.flat_array.Goals as goal

pub returns-in_err-below-clause-too_large : goal.returns-in_err-below-clause-too_large
returns-in_err-below-clause-too_large g c = λ ds lawful kinds is known over.
    let block = c.args.block.now in
    let list = c.args.list.now in
    let seen : AreLeft (g.S.Snapshot.declared c.args.snap.now) (g.S.Snapshot.graph c.args.snap.now) c.args.vars.now.variables block.fields c.args.kept.now.fields c.in_ok-level.level c.args.left =
    subst (λ (ns : List ℕ). AreLeft (g.S.Snapshot.declared c.args.snap.now) (g.S.Snapshot.graph c.args.snap.now) c.args.vars.now.variables block.fields c.args.kept.now.fields ns c.args.left) (sym c.in_ok-level.ensures) known in
    let flats : FlatsOf = objects_at (g.S.Snapshot.declared c.args.snap.now) (g.S.Snapshot.graph c.args.snap.now) ds c.args.vars.now.variables (cascades false block.dirs) block.fields in
    let above : 16777216 < weight_of flats c.in_ok-level.level = c.block_flats.ensures.too_large ds lawful kinds is seen (search rules) in
    weight_passes flats list (subst (λ (level : List ℕ). 16777216 < weight_of flats level) c.in_ok-level.ensures above)

pub returns-in_err-flat_array-clause-too_large : goal.returns-in_err-flat_array-clause-too_large
returns-in_err-flat_array-clause-too_large g c = λ ds lawful kinds is known over.
    let block = c.args.block.now in
    let list = c.args.list.now in
    let seen : AreLeft (g.S.Snapshot.declared c.args.snap.now) (g.S.Snapshot.graph c.args.snap.now) c.args.vars.now.variables block.fields c.args.kept.now.fields c.in_ok-level.level c.args.left =
    subst (λ (ns : List ℕ). AreLeft (g.S.Snapshot.declared c.args.snap.now) (g.S.Snapshot.graph c.args.snap.now) c.args.vars.now.variables block.fields c.args.kept.now.fields ns c.args.left) (sym c.in_ok-level.ensures) known in
    let flats : FlatsOf = objects_at (g.S.Snapshot.declared c.args.snap.now) (g.S.Snapshot.graph c.args.snap.now) ds c.args.vars.now.variables (cascades false block.dirs) block.fields in
    let below : c.as_slice.result.now ≡ map flats c.in_ok-level.level = c.as_slice.ensures.value ∙ c.in_ok-below.ensures.flats ds lawful kinds is seen in
    let there : AreOfLevel c.in_ok-level.level list = subst (λ (level : List ℕ). AreOfLevel level list) (sym c.in_ok-level.ensures) (all_there list) in
    array_passes flats list c.within-array.result c.within-array.ensures (c.flat_array.ensures.too_large flats below there (search rules))

pub returns-clause-ok : goal.returns-clause-ok
returns-clause-ok g c = λ ds lawful kinds is known.
    let block = c.args.block.now in
    let list = c.args.list.now in
    let seen : AreLeft (g.S.Snapshot.declared c.args.snap.now) (g.S.Snapshot.graph c.args.snap.now) c.args.vars.now.variables block.fields c.args.kept.now.fields c.in_ok-level.level c.args.left =
    subst (λ (ns : List ℕ). AreLeft (g.S.Snapshot.declared c.args.snap.now) (g.S.Snapshot.graph c.args.snap.now) c.args.vars.now.variables block.fields c.args.kept.now.fields ns c.args.left) (sym c.in_ok-level.ensures) known in
    let flats : FlatsOf = objects_at (g.S.Snapshot.declared c.args.snap.now) (g.S.Snapshot.graph c.args.snap.now) ds c.args.vars.now.variables (cascades false block.dirs) block.fields in
    let below : c.as_slice.result.now ≡ map flats c.in_ok-level.level = c.as_slice.ensures.value ∙ c.in_ok-below.ensures.flats ds lawful kinds is seen in
    let there : AreOfLevel c.in_ok-level.level list = subst (λ (level : List ℕ). AreOfLevel level list) (sym c.in_ok-level.ensures) (all_there list) in
    let begun : c.flat_array.new.self.begun ≡ array_text (map tree_text (map trees.Node (flat_map flats list))) =
    c.in_ok-flat_array.ensures.ok flats below there ∙ (λ i. (c.within-array.ensures i).begun ++ array_text (map tree_text (map trees.Node (flat_map flats list)))) in
    begun ∙ sym (array_is flats list)
