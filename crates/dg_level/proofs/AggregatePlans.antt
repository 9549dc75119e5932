-- What a plan keeps of aggregates is what their text says, and what blocks without a function show, field by field.
use Rattle.std.proofs.Common.{◌≡◌, ℕ, zero, suc, ◌+◌, ◌<◌, Bool, true, false, nat_eq, List, [], ◌∷◌, ◌++◌, map, flat_map, take, drop, length, get_or, codes, refl, sym, ap, ◌∙◌, subst, arith, append-nil, append_assoc, take-append-drop, length-append}
use Rattle.std.specs.Prelude.{if◌then◌else◌, Option, Some, None, is_some, option_map}
use Rattle.std.proofs.lemmas.Bool.{true≢false, false≢true}
use Rattle.std.proofs.lemmas.List.{take_more}
use Rattle.std.proofs.lemmas.List.Concat.{flat_map-append}
use Rattle.dg_values.specs.declared.value.Value.{Value}
use Rattle.dg_schema.specs.declared.definition.PredDef.{PredDef}
use Rattle.dg_parse.specs.declared.query.AggOp.{AggOp}
use Rattle.dg_parse.specs.declared.query.AggOp.TheVariants as ops
use Rattle.dg_parse.specs.declared.query.QField.{QField}
use Rattle.dg_parse.specs.declared.query.QItem.{QItem}
use Rattle.dg_parse.specs.declared.query.QItem.TheOpen.{QItem-F}
use Rattle.dg_parse.specs.declared.query.QItem.TheVariants as items
use Rattle.dg_parse.specs.declared.query.QItem.TheViews.{out-QItem}
use Rattle.dg_check.specs.declared.parts.Field.{Field as Kept}
use Rattle.dg_check.specs.declared.parts.Item.{Item}
use Rattle.dg_check.specs.declared.parts.Item.TheOpen.{Item-F}
use Rattle.dg_check.specs.declared.parts.Item.TheVariants as kept
use Rattle.dg_check.specs.declared.parts.Item.TheViews.{out-Item}
use Rattle.dg_check.specs.declared.vars.Variable.{Variable}
use Rattle.dg_check.specs.Parts.{IsItemOf, uid, count_uid, count, val, agg, edge, AreFieldsOf, no_field, more_fields}
use Rattle.dg_check.specs.Plans.{place_of}
use Rattle.dg_check.specs.Variables.{Definition}
use Rattle.dg_tree.specs.declared.tree.Tree.{Tree}
use Rattle.dg_tree.specs.declared.tree.Tree.TheVariants as trees
use Rattle.dg_tree.specs.Texts.{tree_text, field_text, with_commas}
use Rattle.dg_level.specs.Aggregates.{values_of, number_in, sum_of, is_beyond, aggregate, objects_of_item, beyond_in}
use Rattle.dg_level.specs.Answers.{value_tree}
use Rattle.dg_level.specs.Meaning.{first_name}
use Rattle.dg_level.specs.PlannedAggregates.{object_where, aggregate_kept, objects_with, objects_by, beyond_by}
use Rattle.dg_level.specs.Rows.{braced}
use Rattle.dg_level.specs.Shown.{under}
use Rattle.dg_level.specs.Parts.{comma_behind, parts_text}
use Rattle.dg_level.proofs.PartLaws.{parts_all}
use Rattle.dg_level.proofs.RowLaws.{text_of, node_text, array_of_trees}

-- ---- texts of objects

object_text : (key : List ℕ) (value : Value) → tree_text (trees.Node (under key (value_tree value) ∷ [])) ≡ object_where key (Some value)
object_text key value = node_text (under key (value_tree value) ∷ []) ∙ ap braced (append-nil (field_text (under key (value_tree value))) ∙ text_of (under key (value_tree value)))

-- the text of the object of a value that is there
pub object_shown : (key : List ℕ) (value : Option Value) → is_some value ≡ true → map tree_text (objects_with key value) ≡ object_where key value ∷ []
object_shown key None some = absurd (false≢true some)
object_shown key (Some value) some = ap (λ t. t ∷ []) (object_text key value)

-- values that aren't none are some
pub long : {A : Type 0} (all : List A) → nat_eq (length all) 0 ≡ false → 0 < length all
long [] some = absurd (true≢false some)
long (x ∷ all) some = omega arith

-- one part, behind another or none
pub one_part : (wrote : Bool) (out part now : List ℕ) → now ≡ (out ++ comma_behind wrote) ++ part → now ≡ out ++ parts_text wrote (part ∷ [])
one_part wrote out part now is = is ∙ append_assoc out (comma_behind wrote) part ∙ ap (λ t. out ++ (comma_behind wrote ++ t)) (sym (append-nil part))

-- what is too large with the comma is too large with the part
pub comma_passes : (wrote : Bool) (out part : List ℕ) (limit : ℕ) → limit < length (out ++ comma_behind wrote) → limit < length (out ++ parts_text wrote (part ∷ []))
comma_passes wrote out part limit above = omega (arith, above, length-append (out ++ comma_behind wrote) part, ap length (one_part wrote out part ((out ++ comma_behind wrote) ++ part) refl))

module _ (out : List ℕ) (objects : List Tree) where
  -- what is too large with the first bracket is too large with the array
  pub bracket_passes : (limit : ℕ) → limit < length (out ++ codes "[") → limit < length (out ++ tree_text (trees.Array objects))
  bracket_passes limit above =
      omega (arith, above, length-append out (codes "["), length-append out (tree_text (trees.Array objects)), ap length (array_of_trees objects), length-append (codes "[") (with_commas (map tree_text objects) ++ codes "]"))

  module _ (opened inside : List ℕ) (opening : opened ≡ out ++ codes "[") (written : inside ≡ opened ++ parts_text false (map tree_text objects)) where
    -- objects between brackets are the array
    pub array_written : inside ++ codes "]" ≡ out ++ tree_text (trees.Array objects)
    array_written =
        ap (λ o. o ++ codes "]") (written ∙ (λ i. opening i ++ parts_all (map tree_text objects) i))
        ∙ append_assoc (out ++ codes "[") (with_commas (map tree_text objects)) (codes "]")
        ∙ append_assoc out (codes "[") (with_commas (map tree_text objects) ++ codes "]")
        ∙ ap (λ t. out ++ t) (sym (array_of_trees objects))

    -- what is too large before the last bracket is too large with it
    pub objects_pass : (limit : ℕ) → limit < length inside → limit < length (out ++ tree_text (trees.Array objects))
    objects_pass limit above = omega (arith, above, length-append inside (codes "]"), ap length array_written)

-- ---- by the plan and by the text

-- one for each
pub as_many : (schema : List PredDef) (ds : List Definition) (qs : List QField) (ks : List Kept) → AreFieldsOf schema ds qs ks → length qs ≡ length ks
as_many schema ds qs ks no_field = refl
as_many schema ds qs ks (more_fields q k qs' ks' var item are) = ap suc (as_many schema ds qs' ks' are)

kept_at : (schema : List PredDef) (ds : List Definition) (qs : List QField) (ks : List Kept) → AreFieldsOf schema ds qs ks → (i : ℕ) (q : QField) (k : Kept) → i < length qs → IsItemOf schema ds (get_or qs i q).item (get_or ks i k).item
kept_at schema ds qs ks no_field i q k lt = absurd (omega (arith, lt))
kept_at schema ds qs ks (more_fields q' k' qs' ks' var item are) zero q k lt = item
kept_at schema ds qs ks (more_fields q' k' qs' ks' var item are) (suc i) q k lt = kept_at schema ds qs' ks' are i q k (omega (arith, lt))

-- what is kept of the field at a place
pub item_at : (schema : List PredDef) (ds : List Definition) (qs : List QField) (ks : List Kept) → AreFieldsOf schema ds qs ks → (i : ℕ) (q : QField) (k : Kept) → i < length qs → q ≡ get_or qs i q → k ≡ get_or ks i k → IsItemOf schema ds q.item k.item
item_at schema ds qs ks are i q k lt field part =
    subst (λ (one : QField). IsItemOf schema ds one.item k.item) (sym field) (subst (λ (one : Kept). IsItemOf schema ds (get_or qs i q).item one.item) (sym part) (kept_at schema ds qs ks are i q k lt))

module _ (schema : List PredDef) (ds : List Definition) (vars : List Variable) where
  module _ (key : List ℕ) where
    by_layers : (q : QItem) (k : Item) (layer : QItem-F QItem QField) (part : Item-F Item Kept) → out-QItem q ≡ layer → out-Item k ≡ part → objects_by vars key (aggregate_kept layer part) ≡ objects_of_item ds vars key layer
        → objects_by vars key (aggregate_kept (out-QItem q) (out-Item k)) ≡ objects_of_item ds vars key (out-QItem q)
    by_layers q k layer part layer_is part_is alike = (λ i. objects_by vars key (aggregate_kept (layer_is i) (part_is i))) ∙ alike ∙ ap (objects_of_item ds vars key) (sym layer_is)

    -- the objects of a field by the plan are those by its text
    pub objects_alike : (q : QItem) (k : Item) → IsItemOf schema ds q k → objects_by vars key (aggregate_kept (out-QItem q) (out-Item k)) ≡ objects_of_item ds vars key (out-QItem q)
    objects_alike q k uid = by_layers items.Uid kept.Plain _ _ items.outs-Uid kept.outs-Plain refl
    objects_alike q k count_uid = by_layers items.CountUid kept.Plain _ _ items.outs-CountUid kept.outs-Plain refl
    objects_alike q k (count e) = by_layers (items.Count e) kept.Plain _ _ (items.outs-Count e) kept.outs-Plain refl
    objects_alike q k (val x place is) = by_layers (items.Val x) (kept.Val place) _ _ (items.outs-Val x) (kept.outs-Val place) refl
    objects_alike q k (agg op x place is) =
        by_layers (items.Agg op x) (kept.Val place) _ _ (items.outs-Agg op x) (kept.outs-Val place)
        (ap (λ p. objects_with key (aggregate op (values_of vars p))) is.0)
    objects_alike q k (edge e args list braces orders filters inner keys filtered inside) = by_layers (items.Edge e args list braces) (kept.Edge orders filters inner) _ _ (items.outs-Edge e args list braces) (kept.outs-Edge orders filters inner) refl

  beyond_layers : (q : QItem) (k : Item) (layer : QItem-F QItem QField) (part : Item-F Item Kept) → out-QItem q ≡ layer → out-Item k ≡ part → beyond_by vars layer part ≡ beyond_in ds vars layer
      → beyond_by vars (out-QItem q) (out-Item k) ≡ beyond_in ds vars (out-QItem q)
  beyond_layers q k layer part layer_is part_is alike = (λ i. beyond_by vars (layer_is i) (part_is i)) ∙ alike ∙ ap (beyond_in ds vars) (sym layer_is)

  one_beyond : (op : AggOp) (x : List ℕ) (place : ℕ) → place ≡ place_of ds x → beyond_by {A = QItem} {B = QField} {C = Item} {D = Kept} vars (QItem-F.Agg op x) (Item-F.Val place) ≡ beyond_in {A = QItem} {B = QField} ds vars (QItem-F.Agg op x)
  one_beyond ops.Min x place is = refl
  one_beyond ops.Max x place is = refl
  one_beyond ops.Sum x place is = ap (λ p. if is_beyond (sum_of (flat_map number_in (values_of vars p))) then x ∷ [] else []) is

  -- so is the variable of a sum that is no number of 64 bits
  pub beyond_alike : (q : QItem) (k : Item) → IsItemOf schema ds q k → beyond_by vars (out-QItem q) (out-Item k) ≡ beyond_in ds vars (out-QItem q)
  beyond_alike q k uid = beyond_layers items.Uid kept.Plain _ _ items.outs-Uid kept.outs-Plain refl
  beyond_alike q k count_uid = beyond_layers items.CountUid kept.Plain _ _ items.outs-CountUid kept.outs-Plain refl
  beyond_alike q k (count e) = beyond_layers (items.Count e) kept.Plain _ _ (items.outs-Count e) kept.outs-Plain refl
  beyond_alike q k (val x place is) = beyond_layers (items.Val x) (kept.Val place) _ _ (items.outs-Val x) (kept.outs-Val place) refl
  beyond_alike q k (agg op x place is) = beyond_layers (items.Agg op x) (kept.Val place) _ _ (items.outs-Agg op x) (kept.outs-Val place) (one_beyond op x place is.0)
  beyond_alike q k (edge e args list braces orders filters inner keys filtered inside) = beyond_layers (items.Edge e args list braces) (kept.Edge orders filters inner) _ _ (items.outs-Edge e args list braces) (kept.outs-Edge orders filters inner) refl

-- ---- the first name

-- something is there or not, whatever is taken of it
pub some_mapped : {T U : Type 0} (f : T → U) (found : Option T) → is_some (option_map f found) ≡ is_some found
some_mapped f None = refl
some_mapped f (Some x) = refl

module _ {A : Type 0} (f : A → List (List ℕ)) (all : List A) (i : ℕ) (one : A) (lt : i < length all) (is : one ≡ get_or all i one) where
  names_more : flat_map f (take (i + 1) all) ≡ flat_map f (take i all) ++ f one
  names_more =
      ap (flat_map f) (take_more all i one lt ∙ ap (λ b. take i all ++ b ∷ []) (sym is))
      ∙ flat_map-append f (take i all) (one ∷ [])
      ∙ ap (λ l. flat_map f (take i all) ++ l) (append-nil (f one))

  -- none so far, and none of one more
  pub none_more : flat_map f (take i all) ≡ [] → (found : Option (List ℕ)) → found ≡ first_name (f one) → is_some found ≡ false → flat_map f (take (i + 1) all) ≡ []
  none_more before found first none = names_more ∙ (λ j. before j ++ empty (f one) (ap is_some (sym first) ∙ none) j)
    where
      empty : (names : List (List ℕ)) → is_some (first_name names) ≡ false → names ≡ []
      empty [] none = refl
      empty (x ∷ names) none = absurd (true≢false none)

  -- none so far, and this is the first
  pub first_found : flat_map f (take i all) ≡ [] → (found : Option (List ℕ)) → found ≡ first_name (f one) → is_some found ≡ true → found ≡ first_name (flat_map f all)
  first_found before found first some =
      first
      ∙ leads (f one) (flat_map f (drop (i + 1) all)) (ap is_some (sym first) ∙ some)
      ∙ ap first_name (
      ap (λ l. l ++ flat_map f (drop (i + 1) all)) (sym (names_more ∙ ap (λ l. l ++ f one) before))
      ∙ sym (flat_map-append f (take (i + 1) all) (drop (i + 1) all))
      ∙ ap (flat_map f) (take-append-drop (i + 1) all)
      )
    where
      leads : (names more : List (List ℕ)) → is_some (first_name names) ≡ true → first_name names ≡ first_name (names ++ more)
      leads [] more some = absurd (false≢true some)
      leads (x ∷ names) more some = refl
