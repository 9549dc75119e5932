use Rattle.std.proofs.Common.{◌≡◌, ℕ, ◌<◌, false, List, ◌++◌, map, length, rules, sym, ap, ◌∙◌, subst}
use Rattle.std.specs.Ordering.{nat_cmp}
use Rattle.dg_values.specs.Ascending.{ascending}
use Rattle.dg_parse.specs.declared.query.QField.{QField}
use Rattle.dg_check.specs.declared.parts.Field.{Field}
use Rattle.dg_check.specs.Parts.{AreFieldsOf}
use Rattle.dg_tree.specs.Texts.{key_text, array_text}
use Rattle.dg_level.specs.Columns.{number_object}
use Rattle.dg_level.specs.Keys.{all_count_keys}
use Rattle.dg_level.specs.Left.{AreLeft}
use Rattle.dg_level.specs.Rows.{total, row_text, objects_of, AreOfLevel}
use Rattle.dg_level.specs.Shown.{cascades, counts_in, fields_at}
use Rattle.dg_level.proofs.BlockLaws.{all_there, row_at, array_is, rows_pass, array_passes}
use Rattle.dg_level.proofs.TextLaws.{text_counts}
use Rattle.dg_level.proofs.blocks.nested_array.Goals as goal

pub returns-in_err-below-clause-too_large : goal.returns-in_err-below-clause-too_large
returns-in_err-below-clause-too_large g c = λ ds lawful kinds is known e.
    let schema = g.S.Snapshot.declared c.args.snap.now in
    let graph = g.S.Snapshot.graph c.args.snap.now in
    let vars = c.args.vars.now.variables in
    let block = c.args.block.now in
    let cascade = cascades false block.dirs in
    let flag : c.cascades.result ≡ cascade = c.cascades.ensures ∙ ap (cascades false) c.as_slice.ensures in
    let list = c.args.list.now in
    let are : AreFieldsOf schema ds c.as_slice-fields.result.now c.as_slice-2.result.now =
    subst (λ (ks : List Field). AreFieldsOf schema ds c.as_slice-fields.result.now ks) (sym c.as_slice-2.ensures)
    (subst (λ (fs : List QField). AreFieldsOf schema ds fs c.args.kept.now.fields) (sym c.as_slice-fields.ensures) is.fields) in
    let seen : AreLeft schema graph vars c.as_slice-fields.result.now c.as_slice-2.result.now c.in_ok-level.level c.args.left =
    subst (λ (ns : List ℕ). AreLeft schema graph vars c.as_slice-fields.result.now c.as_slice-2.result.now ns c.args.left) (sym c.in_ok-level.ensures)
    (subst (λ (ks : List Field). AreLeft schema graph vars c.as_slice-fields.result.now ks (ascending nat_cmp list) c.args.left) (sym c.as_slice-2.ensures)
    (subst (λ (fs : List QField). AreLeft schema graph vars fs c.args.kept.now.fields (ascending nat_cmp list) c.args.left) (sym c.as_slice-fields.ensures) known)) in
    let same : total (map (λ n. row_text (fields_at schema graph ds vars c.cascades.result c.as_slice-fields.result.now n)) c.in_ok-level.level) ≡ total (map (row_at (fields_at schema graph ds vars cascade block.fields)) (ascending nat_cmp list)) =
    λ i. total (map (λ n. row_text (fields_at schema graph ds vars (flag i) (c.as_slice-fields.ensures i) n)) (c.in_ok-level.ensures i)) in
    rows_pass (counts_in schema graph ds vars block.fields) (fields_at schema graph ds vars cascade block.fields) list 16777216
    (subst (λ (t : ℕ). 16777216 < t) same (c.known_rows.ensures.too_large ds lawful kinds are seen (search rules)))

pub returns-in_err-array-clause-too_large : goal.returns-in_err-array-clause-too_large
returns-in_err-array-clause-too_large g c = λ ds lawful kinds is known e.
    let schema = g.S.Snapshot.declared c.args.snap.now in
    let graph = g.S.Snapshot.graph c.args.snap.now in
    let vars = c.args.vars.now.variables in
    let block = c.args.block.now in
    let cascade = cascades false block.dirs in
    let flag : c.cascades.result ≡ cascade = c.cascades.ensures ∙ ap (cascades false) c.as_slice.ensures in
    let list = c.args.list.now in
    let fields = fields_at schema graph ds vars cascade block.fields in
    let counts = counts_in schema graph ds vars block.fields in
    let are : AreFieldsOf schema ds c.as_slice-fields.result.now c.as_slice-2.result.now =
    subst (λ (ks : List Field). AreFieldsOf schema ds c.as_slice-fields.result.now ks) (sym c.as_slice-2.ensures)
    (subst (λ (fs : List QField). AreFieldsOf schema ds fs c.args.kept.now.fields) (sym c.as_slice-fields.ensures) is.fields) in
    let seen : AreLeft schema graph vars c.as_slice-fields.result.now c.as_slice-2.result.now c.in_ok-level.level c.args.left =
    subst (λ (ns : List ℕ). AreLeft schema graph vars c.as_slice-fields.result.now c.as_slice-2.result.now ns c.args.left) (sym c.in_ok-level.ensures)
    (subst (λ (ks : List Field). AreLeft schema graph vars c.as_slice-fields.result.now ks (ascending nat_cmp list) c.args.left) (sym c.as_slice-2.ensures)
    (subst (λ (fs : List QField). AreLeft schema graph vars fs c.args.kept.now.fields (ascending nat_cmp list) c.args.left) (sym c.as_slice-fields.ensures) known)) in
    let rows : c.in_ok-below.below.rows ≡ map (row_at fields) c.in_ok-level.level =
    c.in_ok-below.ensures.rows ds lawful kinds are seen ∙ (λ i. map (λ n. row_text (fields_at schema graph ds vars (flag i) (c.as_slice-fields.ensures i) n)) c.in_ok-level.level) in
    let there : AreOfLevel c.in_ok-level.level list = subst (λ (level : List ℕ). AreOfLevel level list) (sym c.in_ok-level.ensures) (all_there list) in
    let keys : c.as_slice-3.result.now ≡ map key_text (counts_in schema graph ds vars block.fields) =
    c.as_slice-3.ensures ∙ (c.in_ok-counts.ensures ∙ (λ i. map key_text (all_count_keys (c.as_slice-fields.ensures i))) ∙ ap (map key_text) (sym (text_counts schema graph ds vars block.fields))) in
    let front : c.as_slice-4.result.now ≡ map (number_object (length list)) (map key_text (counts_in schema graph ds vars block.fields)) =
    c.as_slice-4.ensures.value ∙ (c.in_ok-front.ensures ∙ ap (map (number_object (length list))) keys) in
    array_passes (counts_in schema graph ds vars block.fields) fields list 16777216 c.in_ok-rows.rows c.as_slice-4.result.now c.in_ok-rows.ensures front
    (c.array.ensures.too_large (row_at fields) rows there (search rules))

pub returns-clause-ok : goal.returns-clause-ok
returns-clause-ok g c = λ ds lawful kinds is known.
    let schema = g.S.Snapshot.declared c.args.snap.now in
    let graph = g.S.Snapshot.graph c.args.snap.now in
    let vars = c.args.vars.now.variables in
    let block = c.args.block.now in
    let cascade = cascades false block.dirs in
    let flag : c.cascades.result ≡ cascade = c.cascades.ensures ∙ ap (cascades false) c.as_slice.ensures in
    let list = c.args.list.now in
    let fields = fields_at schema graph ds vars cascade block.fields in
    let counts = counts_in schema graph ds vars block.fields in
    let are : AreFieldsOf schema ds c.as_slice-fields.result.now c.as_slice-2.result.now =
    subst (λ (ks : List Field). AreFieldsOf schema ds c.as_slice-fields.result.now ks) (sym c.as_slice-2.ensures)
    (subst (λ (fs : List QField). AreFieldsOf schema ds fs c.args.kept.now.fields) (sym c.as_slice-fields.ensures) is.fields) in
    let seen : AreLeft schema graph vars c.as_slice-fields.result.now c.as_slice-2.result.now c.in_ok-level.level c.args.left =
    subst (λ (ns : List ℕ). AreLeft schema graph vars c.as_slice-fields.result.now c.as_slice-2.result.now ns c.args.left) (sym c.in_ok-level.ensures)
    (subst (λ (ks : List Field). AreLeft schema graph vars c.as_slice-fields.result.now ks (ascending nat_cmp list) c.args.left) (sym c.as_slice-2.ensures)
    (subst (λ (fs : List QField). AreLeft schema graph vars fs c.args.kept.now.fields (ascending nat_cmp list) c.args.left) (sym c.as_slice-fields.ensures) known)) in
    let rows : c.in_ok-below.below.rows ≡ map (row_at fields) c.in_ok-level.level =
    c.in_ok-below.ensures.rows ds lawful kinds are seen ∙ (λ i. map (λ n. row_text (fields_at schema graph ds vars (flag i) (c.as_slice-fields.ensures i) n)) c.in_ok-level.level) in
    let there : AreOfLevel c.in_ok-level.level list = subst (λ (level : List ℕ). AreOfLevel level list) (sym c.in_ok-level.ensures) (all_there list) in
    let keys : c.as_slice-3.result.now ≡ map key_text counts =
    c.as_slice-3.ensures ∙ (c.in_ok-counts.ensures ∙ (λ i. map key_text (all_count_keys (c.as_slice-fields.ensures i))) ∙ ap (map key_text) (sym (text_counts schema graph ds vars block.fields))) in
    let front : c.as_slice-4.result.now ≡ map (number_object (length list)) (map key_text counts) =
    c.as_slice-4.ensures.value ∙ (c.in_ok-front.ensures ∙ ap (map (number_object (length list))) keys) in
    let begun : c.array.new.self.begun ≡ array_text (map (number_object (length list)) (map key_text counts) ++ objects_of (map (row_at fields) list)) =
    c.in_ok-array.ensures.ok (row_at fields) rows there ∙ (λ i. (c.in_ok-rows.ensures i).begun ++ array_text (front i ++ objects_of (map (row_at fields) list))) in
    begun ∙ sym (array_is counts fields list)
