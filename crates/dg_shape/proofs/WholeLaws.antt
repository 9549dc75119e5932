-- What the walks over the fields of a node do, field by field.
use Rattle.std.proofs.Common.{◌≡◌, ℕ, Bool, true, false, cond, List, [], ◌∷◌, refl, ap, sym, ◌∙◌}
use Rattle.std.specs.Prelude.{◌&&◌, ◌||◌, if◌then◌else◌, Option, Some, None, is_some, option_map, option_and_then, bytes_eq}
use Rattle.std.specs.List.{list_all, cons_option, AllByRecursion}
use Rattle.std.proofs.lemmas.Slice.Eq.{bytes_eq-Decides}
use Rattle.dg_tree.specs.declared.tree.Tree.{Tree}
use Rattle.dg_tree.specs.declared.tree.Field.{Field}
use Rattle.dg_parse.specs.declared.query.QField.{QField}
use Rattle.dg_parse.specs.declared.query.QItem.TheViews.{out-QItem}
use Rattle.dg_parse.specs.Keys.{key_of}
use Rattle.dg_shape.specs.Keyed.{is_number}
use Rattle.dg_shape.specs.Asked.{Asked, asked_by}
use Rattle.dg_shape.specs.Cascade.{cut_below, to_remain, remaining, first_remains}
use Rattle.dg_shape.specs.Strip.{shown_below, to_show, shown_fields}
use Rattle.dg_shape.specs.Whole.{fields_with, left_by, stays_by, IsShownByField, IsCutByField}
use Rattle.dg_shape.proofs.AskedLaws.{asked_key, asked_number}

same : (key : List ℕ) → bytes_eq key key ≡ true
same key = (bytes_eq-Decides key key).1 refl

-- the key that is asked for is the key of the field
own_key : (below : List Asked → Tree → Option Tree) (q : QField) → bytes_eq (key_of q) (asked_by below q).key ≡ true
own_key below q = ap (bytes_eq (key_of q)) (asked_key below q) ∙ same (key_of q)

-- ---- shown

-- where another key stands first, nothing is shown
passed_over : (q : QField) (more : List Asked) (had : QField → Option Tree) (fields : List QField) → AllByRecursion (λ r. bytes_eq (key_of r) (key_of q) ≡ false) fields
    → shown_fields (asked_by shown_below q ∷ more) (fields_with had fields) ≡ shown_fields more (fields_with had fields)
passed_over q more had [] apart = sym (nothing more)
  where
    nothing : (asked : List Asked) → shown_fields asked [] ≡ []
    nothing [] = refl
    nothing (a ∷ asked) = refl
passed_over q more had (r ∷ fields) apart = by (had r) (passed_over q more had fields apart.1)
  where
    by : (o : Option Tree) → shown_fields (asked_by shown_below q ∷ more) (fields_with had fields) ≡ shown_fields more (fields_with had fields)
        → shown_fields (asked_by shown_below q ∷ more) (cons_option (option_map (λ t. record { key = key_of r; tree = t }) o) (fields_with had fields)) ≡ shown_fields more (cons_option (option_map (λ t. record { key = key_of r; tree = t }) o) (fields_with had fields))
    by None rest = rest
    by (Some t) rest =
        let f : Field = record { key = key_of r; tree = t } in
        let other : bytes_eq (key_of r) (asked_by shown_below q).key ≡ false = ap (bytes_eq (key_of r)) (asked_key shown_below q) ∙ apart.0 in
        λ i. cond (other i) (cons_option (option_map (λ u. record { key = key_of r; tree = u }) ((asked_by shown_below q).left t)) (shown_fields more (fields_with had fields))) (shown_fields more (f ∷ fields_with had fields))

pub shown_by_field : IsShownByField
shown_by_field [] had apart = refl
shown_by_field (q ∷ fields) had apart = by (had q) (shown_by_field fields had apart.1)
  where
    by : (o : Option Tree) → shown_fields (to_show fields) (fields_with had fields) ≡ fields_with (left_by shown_below had) fields
        → shown_fields (asked_by shown_below q ∷ to_show fields) (cons_option (option_map (λ t. record { key = key_of q; tree = t }) o) (fields_with had fields))
        ≡ cons_option (option_map (λ t. record { key = key_of q; tree = t }) (option_and_then (asked_by shown_below q).left o)) (fields_with (left_by shown_below had) fields)
    by None rest = passed_over q (to_show fields) had fields apart.0 ∙ rest
    by (Some t) rest =
        let f : Field = record { key = key_of q; tree = t } in
        (λ i. cond (own_key shown_below q i) (cons_option (option_map (λ u. record { key = key_of q; tree = u }) ((asked_by shown_below q).left t)) (shown_fields (to_show fields) (fields_with had fields))) (shown_fields (to_show fields) (f ∷ fields_with had fields)))
        ∙ ap (cons_option (option_map (λ u. record { key = key_of q; tree = u }) ((asked_by shown_below q).left t))) rest

-- ---- cut

-- where another key stands first, the node is dropped
left_out : (q : QField) (others : List Field → Option (List Field)) (had : QField → Option Tree) (fields : List QField) → AllByRecursion (λ r. bytes_eq (key_of r) (key_of q) ≡ false) fields
    → first_remains (asked_by cut_below q) others (fields_with had fields) ≡ None
left_out q others had [] apart = refl
left_out q others had (r ∷ fields) apart = by (had r) (left_out q others had fields apart.1)
  where
    by : (o : Option Tree) → first_remains (asked_by cut_below q) others (fields_with had fields) ≡ None
        → first_remains (asked_by cut_below q) others (cons_option (option_map (λ t. record { key = key_of r; tree = t }) o) (fields_with had fields)) ≡ None
    by None rest = rest
    by (Some t) rest =
        let other : bytes_eq (key_of r) (asked_by cut_below q).key ≡ false = ap (bytes_eq (key_of r)) (asked_key cut_below q) ∙ apart.0 in
        λ i. cond (other i) (option_and_then (λ u. option_map (λ more. record { key = key_of r; tree = u } ∷ more) (others (fields_with had fields))) ((asked_by cut_below q).left t)) None

-- one field more, by what is left of it
kept_more : (key : List ℕ) (all : Bool) (left : Option Tree) (some : List Field) → option_and_then (λ u. option_map (λ more. record { key = key; tree = u } ∷ more) (if all then Some some else None)) left
    ≡ (if is_some left && all then Some (cons_option (option_map (λ u. record { key = key; tree = u }) left) some) else None)
kept_more key all None some = refl
kept_more key true (Some u) some = refl
kept_more key false (Some u) some = refl

pub cut_by_field : IsCutByField
cut_by_field [] had apart none = refl
cut_by_field (q ∷ fields) had apart none =
    (λ i. cond (asked_number cut_below q i) (remaining (to_remain fields) (cons_option (option_map (λ t. record { key = key_of q; tree = t }) (had q)) (fields_with had fields))) (first_remains (asked_by cut_below q) (remaining (to_remain fields)) (cons_option (option_map (λ t. record { key = key_of q; tree = t }) (had q)) (fields_with had fields))))
    ∙ by (is_number (out-QItem q.item)) (had q) none.0 (cut_by_field fields had apart.1 none.1)
  where
    by : (n : Bool) (o : Option Tree) → (n ≡ true → o ≡ None)
        → remaining (to_remain fields) (fields_with had fields) ≡ (if list_all (stays_by cut_below had) fields then Some (fields_with (left_by cut_below had) fields) else None)
        → cond n (remaining (to_remain fields) (cons_option (option_map (λ t. record { key = key_of q; tree = t }) o) (fields_with had fields))) (first_remains (asked_by cut_below q) (remaining (to_remain fields)) (cons_option (option_map (λ t. record { key = key_of q; tree = t }) o) (fields_with had fields)))
        ≡ (if (n || is_some (option_and_then (asked_by cut_below q).left o)) && list_all (stays_by cut_below had) fields
        then Some (cons_option (option_map (λ t. record { key = key_of q; tree = t }) (option_and_then (asked_by cut_below q).left o)) (fields_with (left_by cut_below had) fields))
        else None)
    by true None e rest = rest
    by true (Some t) e rest = let no = e refl in absurd (cc)
    by false None e rest = left_out q (remaining (to_remain fields)) had fields apart.0
    by false (Some t) e rest =
        (λ i. cond (own_key cut_below q i) (option_and_then (λ u. option_map (λ more. record { key = key_of q; tree = u } ∷ more) (remaining (to_remain fields) (fields_with had fields))) ((asked_by cut_below q).left t)) None)
        ∙ ((λ i. option_and_then (λ u. option_map (λ more. record { key = key_of q; tree = u } ∷ more) (rest i)) ((asked_by cut_below q).left t))
        ∙ kept_more (key_of q) (list_all (stays_by cut_below had) fields) ((asked_by cut_below q).left t) (fields_with (left_by cut_below had) fields))
