-- The texts of rows, and of what stands in them.
use Rattle.std.proofs.Common.{◌≡◌, ℕ, ◌+◌, ◌<◌, ◌≤◌, List, [], ◌∷◌, ◌++◌, map, flat_map, length, codes, refl, sym, ap, ◌∙◌, arith, length-append, append_assoc, append-nil}
use Rattle.std.proofs.lemmas.List.{map-append}
use Rattle.json.specs.Print.{quoted}
use Rattle.dg_tree.specs.declared.tree.Tree.{Tree, Tree-F, fold-roll-Tree}
use Rattle.dg_tree.specs.declared.tree.Tree.TheVariants as trees
use Rattle.dg_tree.specs.declared.tree.Tree.TheFolds.{fold_out-Field}
use Rattle.dg_tree.specs.declared.tree.Field.{Field}
use Rattle.dg_tree.specs.Texts.{with_commas, array_text, key_text, text_of_tree, text_of_field, tree_text, field_text}
use Rattle.dg_recurse.specs.Rows.{row_text, not_empty, braced, objects_of, joined, enclosed, comma_behind}

-- ---- texts with commas between those that aren't empty

comma_parts : List (List ℕ) → List ℕ
comma_parts texts = flat_map (λ text. codes "," ++ text) texts

pub joined_one : (text : List ℕ) → joined (text ∷ []) ≡ text
joined_one [] = refl
joined_one (byte ∷ text) = append-nil (byte ∷ text)

-- those behind the first may be joined before
pub joined_behind : (text : List ℕ) (texts : List (List ℕ)) → joined (text ∷ texts) ≡ joined (text ∷ joined texts ∷ [])
joined_behind [] texts = sym (joined_one (joined texts))
joined_behind (byte ∷ text) [] = refl
joined_behind (byte ∷ text) ([] ∷ texts) = joined_behind (byte ∷ text) texts
joined_behind (byte ∷ text) ((b ∷ more) ∷ texts) =
    ap (λ l. (byte ∷ text) ++ (codes "," ++ l)) (sym (append-nil ((b ∷ more) ++ flat_map (λ t. codes "," ++ t) (not_empty texts))))

-- three are joined from either side
three : (a b c : List ℕ) → joined (a ∷ b ∷ c ∷ []) ≡ joined (joined (a ∷ b ∷ []) ∷ c ∷ [])
three [] b c = ap (λ l. joined (l ∷ c ∷ [])) (sym (joined_one b))
three (x ∷ a) [] c = ap (λ l. joined (l ∷ c ∷ [])) (sym (append-nil (x ∷ a)))
three (x ∷ a) (y ∷ b) [] = sym (append-nil _)
three (x ∷ a) (y ∷ b) (z ∷ c) =
    let front = codes "," ++ (y ∷ b) in
    let rest = (codes "," ++ (z ∷ c)) ++ [] in
    ap (λ l. x ∷ l) (sym (append_assoc a (front ++ []) rest ∙ ap (λ l. a ++ (l ++ rest)) (append-nil front)))

-- a front and what follows may be joined before
pub joined_both : (texts more : List (List ℕ)) → joined (texts ++ more) ≡ joined (joined texts ∷ joined more ∷ [])
joined_both [] more = sym (joined_one (joined more))
joined_both ([] ∷ texts) more = joined_both texts more
joined_both ((byte ∷ text) ∷ texts) more =
    joined_behind (byte ∷ text) (texts ++ more)
    ∙ ap (λ l. joined ((byte ∷ text) ∷ l ∷ [])) (joined_both texts more)
    ∙ sym (joined_behind (byte ∷ text) (joined texts ∷ joined more ∷ []))
    ∙ three (byte ∷ text) (joined texts) (joined more)
    ∙ ap (λ l. joined (l ∷ joined more ∷ [])) (sym (joined_behind (byte ∷ text) texts))

-- one text more
pub joined_more : (texts : List (List ℕ)) (text : List ℕ) → joined (texts ++ text ∷ []) ≡ joined (joined texts ∷ text ∷ [])
joined_more texts text = joined_both texts (text ∷ []) ∙ ap (λ l. joined (joined texts ∷ l ∷ [])) (joined_one text)

-- texts that were joined in groups
pub joined_groups : (groups : List (List (List ℕ))) → joined (map joined groups) ≡ joined (flat_map (λ texts. texts) groups)
joined_groups [] = refl
joined_groups (texts ∷ groups) =
    joined_behind (joined texts) (map joined groups)
    ∙ ap (λ l. joined (joined texts ∷ l ∷ [])) (joined_groups groups)
    ∙ sym (joined_both texts (flat_map (λ texts. texts) groups))

pub both_fit : (a b : List ℕ) → length a + length b ≤ length (joined (a ∷ b ∷ []))
both_fit [] b = omega (arith, ap length (joined_one b))
both_fit (x ∷ a) [] = omega (arith, length-append (x ∷ a) [])
both_fit (x ∷ a) (y ∷ b) = omega (arith, length-append (x ∷ a) ((codes "," ++ (y ∷ b)) ++ []), length-append (codes "," ++ (y ∷ b)) [], length-append (codes ",") (y ∷ b))

pub front_fits : (texts more : List (List ℕ)) → length (joined texts) ≤ length (joined (texts ++ more))
front_fits texts more = omega (arith, ap length (joined_both texts more), both_fit (joined texts) (joined more))

-- ---- a text between two others

pub longer : (before text behind : List ℕ) → length text ≤ length (enclosed before text behind)
longer before [] behind = omega arith
longer before (byte ∷ text) behind = omega (arith, length-append before ((byte ∷ text) ++ behind), length-append (byte ∷ text) behind)

pub bare_enclosed : (text : List ℕ) → enclosed [] text [] ≡ text
bare_enclosed [] = refl
bare_enclosed (byte ∷ text) = append-nil (byte ∷ text)

in_front : (out comma before text behind : List ℕ) → (((out ++ comma) ++ before) ++ text) ++ behind ≡ out ++ ((comma ++ (before ++ (text ++ behind))) ++ [])
in_front out comma before text behind =
    append_assoc ((out ++ comma) ++ before) text behind
    ∙ append_assoc (out ++ comma) before (text ++ behind)
    ∙ append_assoc out comma (before ++ (text ++ behind))
    ∙ ap (λ l. out ++ l) (sym (append-nil (comma ++ (before ++ (text ++ behind)))))

-- a text between two others behind what stands there
added : (out before text behind : List ℕ) → (text ≡ [] → ⊥) → (((out ++ comma_behind out) ++ before) ++ text) ++ behind ≡ joined (out ∷ enclosed before text behind ∷ [])
added out before [] behind some = absurd (some refl)
added [] [] (t ∷ text) behind some = sym (append-nil (t ∷ text ++ behind))
added [] (b ∷ before) (t ∷ text) behind some = append_assoc (b ∷ before) (t ∷ text) behind ∙ sym (append-nil _)
added (x ∷ out) [] (t ∷ text) behind some = in_front (x ∷ out) (codes ",") [] (t ∷ text) behind
added (x ∷ out) (b ∷ before) (t ∷ text) behind some = in_front (x ∷ out) (codes ",") (b ∷ before) (t ∷ text) behind

-- so it is when the parts are added one after another, and what is too large with some of them is too large with all
module _ (out before text behind : List ℕ) (some : text ≡ [] → ⊥) (limit : ℕ) where
  pub comma_passes : limit < length (out ++ comma_behind out) → limit < length (joined (out ∷ enclosed before text behind ∷ []))
  comma_passes above =
      omega (
        arith,
        above,
        ap length (added out before text behind some),
        length-append (((out ++ comma_behind out) ++ before) ++ text) behind,
        length-append ((out ++ comma_behind out) ++ before) text,
        length-append (out ++ comma_behind out) before,
      )

  module _ (one : List ℕ) (one_is : one ≡ out ++ comma_behind out) where
    pub before_passes : limit < length (one ++ before) → limit < length (joined (out ∷ enclosed before text behind ∷ []))
    before_passes above =
        omega (
          arith,
          above,
          ap (λ l. length (l ++ before)) one_is,
          ap length (added out before text behind some),
          length-append (((out ++ comma_behind out) ++ before) ++ text) behind,
          length-append ((out ++ comma_behind out) ++ before) text,
        )

    module _ (two : List ℕ) (two_is : two ≡ one ++ before) where
      pub text_passes : limit < length (two ++ text) → limit < length (joined (out ∷ enclosed before text behind ∷ []))
      text_passes above =
          omega (
            arith,
            above,
            ap (λ l. length (l ++ text)) (two_is ∙ ap (λ l. l ++ before) one_is),
            ap length (added out before text behind some),
            length-append (((out ++ comma_behind out) ++ before) ++ text) behind,
          )

      module _ (three : List ℕ) (three_is : three ≡ two ++ text) where
        pub all_added : three ++ behind ≡ joined (out ∷ enclosed before text behind ∷ [])
        all_added = ap (λ l. l ++ behind) (three_is ∙ ap (λ l. l ++ text) (two_is ∙ ap (λ l. l ++ before) one_is)) ∙ added out before text behind some

-- an empty text adds nothing
pub nothing_added : (out before text behind : List ℕ) → text ≡ [] → out ≡ joined (out ∷ enclosed before text behind ∷ [])
nothing_added out before [] behind none = sym (alone out)
  where
    alone : (out : List ℕ) → joined (out ∷ [] ∷ []) ≡ out
    alone [] = refl
    alone (x ∷ out) = append-nil (x ∷ out)
nothing_added out before (t ∷ text) behind none = absurd (cons≢nil none)
  where
    cons≢nil : {t : ℕ} {text : List ℕ} → t ∷ text ≡ [] → ⊥
    cons≢nil e = omega (arith, ap length e)

-- ---- fields

-- the text of a field has its key and its tree
pub text_of : (field : Field) → field_text field ≡ key_text field.key ++ tree_text field.tree
text_of field = fold_out-Field (List ℕ) (List ℕ) text_of_tree text_of_field field

-- a text that isn't empty stays
not_empty_first : (text : List ℕ) (texts : List (List ℕ)) → 0 < length text → not_empty (text ∷ texts) ≡ text ∷ not_empty texts
not_empty_first [] texts above = absurd (omega (arith, above))
not_empty_first (byte ∷ text) texts above = refl

field_long : (field : Field) → 0 < length (field_text field)
field_long field = omega (arith, ap length (text_of field), length-append (key_text field.key) (tree_text field.tree), length-append (quoted field.key) (codes ":"))

pub row_joined : (fields : List Field) → row_text fields ≡ joined (map field_text fields)
row_joined fields = ap with_commas (sym (none_empty fields))
  where
    none_empty : (fields : List Field) → not_empty (map field_text fields) ≡ map field_text fields
    none_empty [] = refl
    none_empty (field ∷ fields) = not_empty_first (field_text field) (map field_text fields) (field_long field) ∙ ap (λ l. field_text field ∷ l) (none_empty fields)

-- rows joined are the row of all their fields
pub rows_joined : (groups : List (List Field)) → joined (map row_text groups) ≡ row_text (flat_map (λ fields. fields) groups)
rows_joined groups = ap joined (each groups) ∙ joined_groups (map (map field_text) groups) ∙ ap joined (flat groups) ∙ sym (row_joined (flat_map (λ fields. fields) groups))
  where
    each : (groups : List (List Field)) → map row_text groups ≡ map joined (map (map field_text) groups)
    each [] = refl
    each (fields ∷ groups) = (λ i. row_joined fields i ∷ each groups i)

    flat : (groups : List (List Field)) → flat_map (λ texts. texts) (map (map field_text) groups) ≡ map field_text (flat_map (λ fields. fields) groups)
    flat [] = refl
    flat (fields ∷ groups) = ap (λ l. map field_text fields ++ l) (flat groups) ∙ sym (map-append field_text fields (flat_map (λ fields. fields) groups))

-- ---- objects

node_text : (fields : List Field) → tree_text (trees.Node fields) ≡ braced (row_text fields)
node_text fields = ap tree_text (sym (trees.rolls-Node fields)) ∙ fold-roll-Tree (List ℕ) (List ℕ) text_of_tree text_of_field (Tree-F.Node fields)

-- the text of an array
pub array_of_trees : (items : List Tree) → tree_text (trees.Array items) ≡ array_text (map tree_text items)
array_of_trees items = ap tree_text (sym (trees.rolls-Array items)) ∙ fold-roll-Tree (List ℕ) (List ℕ) text_of_tree text_of_field (Tree-F.Array items)

row_long : (field : Field) (fields : List Field) → 0 < length (row_text (field ∷ fields))
row_long field fields = omega (arith, length-append (field_text field) (flat_map (λ text. codes "," ++ text) (map field_text fields)), field_long field)

pub object_first : (field : Field) (fields : List Field) (rows : List (List ℕ)) → objects_of (row_text (field ∷ fields) ∷ rows) ≡ tree_text (trees.Node (field ∷ fields)) ∷ objects_of rows
object_first field fields rows =
    ap (map braced) (not_empty_first (row_text (field ∷ fields)) rows (row_long field fields)) ∙ ap (λ text. text ∷ objects_of rows) (sym (node_text (field ∷ fields)))

-- objects with commas between them, as texts that are joined
pub objects_joined : (row : ℕ → List ℕ) (nodes : List ℕ) → with_commas (objects_of (map row nodes)) ≡ joined (map (λ n. enclosed (codes "{") (row n) (codes "}")) nodes)
objects_joined row nodes = ap with_commas (same nodes)
  where
    one : (text : List ℕ) (rows objects : List (List ℕ)) → objects_of rows ≡ not_empty objects → objects_of (text ∷ rows) ≡ not_empty (enclosed (codes "{") text (codes "}") ∷ objects)
    one [] rows objects e = e
    one (byte ∷ text) rows objects e = ap (λ l. braced (byte ∷ text) ∷ l) e

    same : (nodes : List ℕ) → objects_of (map row nodes) ≡ not_empty (map (λ n. enclosed (codes "{") (row n) (codes "}")) nodes)
    same [] = refl
    same (n ∷ nodes) = one (row n) (map row nodes) (map (λ n. enclosed (codes "{") (row n) (codes "}")) nodes) (same nodes)

pub objects_both : (rows more : List (List ℕ)) → objects_of (rows ++ more) ≡ objects_of rows ++ objects_of more
objects_both [] more = refl
objects_both ([] ∷ rows) more = objects_both rows more
objects_both ((byte ∷ row) ∷ rows) more = ap (λ l. braced (byte ∷ row) ∷ l) (objects_both rows more)
