use Rattle.std.proofs.Common.{◌≡◌, ℕ, ◌<◌, List, [], ◌++◌, map, rules, sym, ◌∙◌, subst, refl}
use Rattle.std.specs.Ordering.{nat_cmp}
use Rattle.dg_values.specs.Ascending.{ascending}
use Rattle.dg_parse.specs.declared.query.QField.{QField}
use Rattle.dg_check.specs.declared.parts.Field.{Field}
use Rattle.dg_check.specs.Parts.{AreFieldsOf}
use Rattle.dg_tree.specs.Texts.{array_text}
use Rattle.dg_level.specs.Recursions.{recursed_at}
use Rattle.dg_level.specs.Rows.{total, row_text, objects_of, AreOfLevel}
use Rattle.dg_level.proofs.BlockLaws.{all_there, row_at, array_is, rows_pass, array_passes}
use Rattle.dg_level.proofs.blocks.recursed_array.Goals as goal

pub returns-in_err-below-clause-too_large : goal.returns-in_err-below-clause-too_large
returns-in_err-below-clause-too_large g c = λ ds lawful kinds is e.
    let schema = g.S.Snapshot.declared c.args.snap.now in
    let graph = g.S.Snapshot.graph c.args.snap.now in
    let vars = c.args.vars.now.variables in
    let block = c.args.block.now in
    let list = c.args.list.now in
    let fields = recursed_at schema graph ds vars c.args.recursion.again c.args.recursion.depth block.fields in
    let are : AreFieldsOf schema ds c.as_slice-fields.result.now c.as_slice.result.now =
    subst (λ (ks : List Field). AreFieldsOf schema ds c.as_slice-fields.result.now ks) (sym c.as_slice.ensures)
    (subst (λ (fs : List QField). AreFieldsOf schema ds fs c.args.kept.now.fields) (sym c.as_slice-fields.ensures) is.fields) in
    let same : total (map (λ n. row_text (recursed_at schema graph ds vars c.args.recursion.again c.args.recursion.depth c.as_slice-fields.result.now n)) c.in_ok-level.level) ≡ total (map (row_at fields) (ascending nat_cmp list)) =
    λ i. total (map (λ n. row_text (recursed_at schema graph ds vars c.args.recursion.again c.args.recursion.depth (c.as_slice-fields.ensures i) n)) (c.in_ok-level.ensures i)) in
    rows_pass [] fields list 16777216 (subst (λ (t : ℕ). 16777216 < t) same (c.recursed_rows.ensures.too_large ds lawful kinds are (search rules)))

pub returns-in_err-array-clause-too_large : goal.returns-in_err-array-clause-too_large
returns-in_err-array-clause-too_large g c = λ ds lawful kinds is e.
    let schema = g.S.Snapshot.declared c.args.snap.now in
    let graph = g.S.Snapshot.graph c.args.snap.now in
    let vars = c.args.vars.now.variables in
    let block = c.args.block.now in
    let list = c.args.list.now in
    let fields = recursed_at schema graph ds vars c.args.recursion.again c.args.recursion.depth block.fields in
    let are : AreFieldsOf schema ds c.as_slice-fields.result.now c.as_slice.result.now =
    subst (λ (ks : List Field). AreFieldsOf schema ds c.as_slice-fields.result.now ks) (sym c.as_slice.ensures)
    (subst (λ (fs : List QField). AreFieldsOf schema ds fs c.args.kept.now.fields) (sym c.as_slice-fields.ensures) is.fields) in
    let rows : c.in_ok-below.below.rows ≡ map (row_at fields) c.in_ok-level.level =
    c.in_ok-below.ensures.rows ds lawful kinds are ∙ (λ i. map (λ n. row_text (recursed_at schema graph ds vars c.args.recursion.again c.args.recursion.depth (c.as_slice-fields.ensures i) n)) c.in_ok-level.level) in
    let there : AreOfLevel c.in_ok-level.level list = subst (λ (level : List ℕ). AreOfLevel level list) (sym c.in_ok-level.ensures) (all_there list) in
    array_passes [] fields list 16777216 c.within-array.result [] c.within-array.ensures refl (c.array.ensures.too_large (row_at fields) rows there (search rules))

pub returns-clause-ok : goal.returns-clause-ok
returns-clause-ok g c = λ ds lawful kinds is.
    let schema = g.S.Snapshot.declared c.args.snap.now in
    let graph = g.S.Snapshot.graph c.args.snap.now in
    let vars = c.args.vars.now.variables in
    let block = c.args.block.now in
    let list = c.args.list.now in
    let fields = recursed_at schema graph ds vars c.args.recursion.again c.args.recursion.depth block.fields in
    let are : AreFieldsOf schema ds c.as_slice-fields.result.now c.as_slice.result.now =
    subst (λ (ks : List Field). AreFieldsOf schema ds c.as_slice-fields.result.now ks) (sym c.as_slice.ensures)
    (subst (λ (fs : List QField). AreFieldsOf schema ds fs c.args.kept.now.fields) (sym c.as_slice-fields.ensures) is.fields) in
    let rows : c.in_ok-below.below.rows ≡ map (row_at fields) c.in_ok-level.level =
    c.in_ok-below.ensures.rows ds lawful kinds are ∙ (λ i. map (λ n. row_text (recursed_at schema graph ds vars c.args.recursion.again c.args.recursion.depth (c.as_slice-fields.ensures i) n)) c.in_ok-level.level) in
    let there : AreOfLevel c.in_ok-level.level list = subst (λ (level : List ℕ). AreOfLevel level list) (sym c.in_ok-level.ensures) (all_there list) in
    let begun : c.array.new.self.begun ≡ array_text (objects_of (map (row_at fields) list)) =
    c.in_ok-array.ensures.ok (row_at fields) rows there ∙ (λ i. (c.within-array.ensures i).begun ++ array_text (objects_of (map (row_at fields) list))) in
    begun ∙ sym (array_is [] fields list)
