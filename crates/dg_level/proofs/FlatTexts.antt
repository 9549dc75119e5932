-- The texts of flat objects.
use Rattle.std.proofs.Common.{◌≡◌, ℕ, zero, suc, ◌+◌, ◌<◌, ◌≤◌, ◌*◌, ◌/◌, ◌%◌, Bool, true, false, List, [], ◌∷◌, ◌++◌, map, flat_map, length, take, drop, get_or, codes, cond, refl, sym, ap, subst, ◌∙◌, arith, length-append, append_assoc, take-append-drop}
use Rattle.std.specs.Prelude.{pos, negsuc, ◌==◌}
use Rattle.std.specs.Fmt.{decimal, digits, digits_onto, digit_glyph}
use Rattle.std.proofs.lemmas.List.{map-append, length-map, take_more}
use Rattle.json.specs.Print.{quoted, escape}
use Rattle.dg_tree.specs.declared.tree.Field.{Field}
use Rattle.dg_tree.specs.declared.tree.Tree.{Tree, Tree-F}
use Rattle.dg_tree.specs.declared.tree.Tree.TheFolds.{fold_out-Tree}
use Rattle.dg_tree.specs.declared.tree.Tree.TheVariants as trees
use Rattle.dg_tree.specs.Texts.{with_commas, array_text, key_text, text_of_tree, text_of_field, tree_text, field_text}
use Rattle.dg_level.specs.Parts.{parts_text}
use Rattle.dg_level.specs.Rows.{total, row_text}
use Rattle.dg_level.specs.Flats.{weight, weight_in, flat_texts}
use Rattle.dg_level.proofs.RowLaws.{total_first, text_of, node_text}
use Rattle.dg_level.proofs.PartLaws.{parts_all}
use Rattle.dg_level.proofs.FlatCounts.{weight_first}

pub texts_joined : (objects more : List (List Field)) → flat_texts (objects ++ more) ≡ flat_texts objects ++ flat_texts more
texts_joined objects more = ap (map tree_text) (map-append trees.Node objects more) ∙ map-append tree_text (map trees.Node objects) (map trees.Node more)

-- ---- a loop that writes parts for each of these

module _ {X : Type 0} (made : List X → List (List ℕ)) (joins : (xs more : List X) → made (xs ++ more) ≡ made xs ++ made more) (xs : List X) (i : ℕ) (x : X) (lt : i < length xs) (is : x ≡ get_or xs i x) where
  -- one more
  pub made_more : made (take (i + 1) xs) ≡ made (take i xs) ++ made (x ∷ [])
  made_more = ap made (take_more xs i x lt ∙ ap (λ y. take i xs ++ y ∷ []) (sym is)) ∙ joins (take i xs) (x ∷ [])

  pub all_made : made xs ≡ (made (take i xs) ++ made (x ∷ [])) ++ made (drop (i + 1) xs)
  all_made = ap made (sym (take-append-drop (i + 1) xs)) ∙ joins (take (i + 1) xs) (drop (i + 1) xs) ∙ ap (λ m. m ++ made (drop (i + 1) xs)) made_more

-- ---- an array of parts

module _ (old begun : List ℕ) (items : List (List ℕ)) (is : begun ≡ old ++ codes "[") where
  pub array_whole : (all : List ℕ) → all ≡ begun ++ parts_text false items → all ++ codes "]" ≡ old ++ array_text items
  array_whole all added =
      ap (λ a. a ++ codes "]") added
      ∙ append_assoc begun (parts_text false items) (codes "]")
      ∙ (λ i. is i ++ (parts_all items i ++ codes "]"))
      ∙ append_assoc old (codes "[") (with_commas items ++ codes "]")

  -- what is too large without its end is too large as a whole
  pub array_passes : (used limit : ℕ) → limit < used + length (begun ++ parts_text false items) → limit < used + length (old ++ array_text items)
  array_passes used limit above = omega (arith, above, ap length (array_whole (begun ++ parts_text false items) refl), length-append (begun ++ parts_text false items) (codes "]"))

-- fields behind each other are the text of a row
pub row_is : (old now : List ℕ) (fields : List Field) → now ≡ old ++ parts_text false (map field_text fields) → now ≡ old ++ row_text fields
row_is old now fields is = is ∙ ap (λ t. old ++ t) (parts_all (map field_text fields))

pub row_passes : (old : List ℕ) (fields : List Field) (used limit : ℕ) → limit < used + length (old ++ parts_text false (map field_text fields)) → limit < used + length (old ++ row_text fields)
row_passes old fields used limit above = omega (arith, above, ap (λ t. length (old ++ t)) (parts_all (map field_text fields)))

-- ---- how long the texts are at least

onto_longer : (k base : ℕ) (upper : Bool) (n : ℕ) (acc : List ℕ) → length acc ≤ length (digits_onto k base upper n acc)
onto_longer zero base upper n acc = omega arith
onto_longer (suc k) base upper n acc = by (digit_glyph upper (n % base)) (n / base == 0) (onto_longer k base upper (n / base))
  where
    by : (glyph : ℕ) (v : Bool) → ((more : List ℕ) → length more ≤ length (digits_onto k base upper (n / base) more))
        → length acc ≤ length (cond v (glyph ∷ acc) (digits_onto k base upper (n / base) (glyph ∷ acc)))
    by glyph true rest = omega arith
    by glyph false rest = omega (arith, rest (glyph ∷ acc))

onto_some : (k base : ℕ) (upper : Bool) (n : ℕ) → 0 < length (digits_onto (suc k) base upper n [])
onto_some k base upper n = by (digit_glyph upper (n % base)) (n / base == 0)
  where
    by : (glyph : ℕ) (v : Bool) → 0 < length (cond v (glyph ∷ []) (digits_onto k base upper (n / base) (glyph ∷ [])))
    by glyph true = omega arith
    by glyph false = omega (arith, onto_longer k base upper (n / base) (glyph ∷ []))

-- a number has a digit
decimal_shown : (n : ℕ) → 0 < length (decimal n)
unfolding digits
decimal_shown n = onto_some 63 10 false n

layer_shown : (layer : Tree-F (List ℕ) (List ℕ)) → 0 < length (text_of_tree layer)
layer_shown (Tree-F.Int (pos n)) = decimal_shown n
layer_shown (Tree-F.Int (negsuc n)) = omega arith
layer_shown (Tree-F.Bool true) = omega arith
layer_shown (Tree-F.Bool false) = omega arith
layer_shown (Tree-F.Text text) = omega arith
layer_shown (Tree-F.Array texts) = omega arith
layer_shown (Tree-F.Node texts) = omega arith

-- no tree has an empty text
pub tree_shown : (tree : Tree) → 0 < length (tree_text tree)
tree_shown tree = let P : List ℕ → Type 0 = λ text. 0 < length text in subst P (sym (fold_out-Tree (List ℕ) (List ℕ) text_of_tree text_of_field tree)) (layer_shown _)

-- a field has two quotes, a colon and its tree
pub field_four : (field : Field) → 4 ≤ length (field_text field)
field_four field =
    omega (
      arith,
      ap length (text_of field),
      length-append (key_text field.key) (tree_text field.tree),
      length-append (quoted field.key) (codes ":"),
      length-append (escape field.key) (codes "\""),
      tree_shown field.tree,
    )

fields_four : (fields : List Field) → 4 * length fields ≤ total (map field_text fields)
fields_four [] = omega arith
fields_four (field ∷ fields) = omega (arith, field_four field, total_first (field_text field) (map field_text fields), fields_four fields)

-- texts with commas between them have a byte more for each but the last
commas_within : (texts : List (List ℕ)) → total texts + length texts ≤ length (with_commas texts) + 1
commas_within [] = omega arith
commas_within (text ∷ texts) = omega (arith, total_first text texts, length-append text (flat_map (λ part. codes "," ++ part) texts), behind texts)
  where
    behind : (texts : List (List ℕ)) → total texts + length texts ≤ length (flat_map (λ part. codes "," ++ part) texts)
    behind [] = omega arith
    behind (text ∷ texts) = omega (arith, total_first text texts, length-append (codes "," ++ text) (flat_map (λ part. codes "," ++ part) texts), length-append (codes ",") text, behind texts)

-- an object has its weight, with the comma behind it
object_weight : (object : List Field) → weight object ≤ length (tree_text (trees.Node object)) + 1
object_weight [] = omega arith
object_weight (field ∷ fields) =
    omega (
      arith,
      ap length (node_text (field ∷ fields)),
      length-append (codes "{") (row_text (field ∷ fields) ++ codes "}"),
      length-append (row_text (field ∷ fields)) (codes "}"),
      commas_within (map field_text (field ∷ fields)),
      length-map (field ∷ fields) field_text,
      fields_four (field ∷ fields),
    )

objects_weight : (objects : List (List Field)) → weight_in objects ≤ total (flat_texts objects) + length (flat_texts objects)
objects_weight [] = omega arith
objects_weight (object ∷ objects) = omega (arith, weight_first object objects, total_first (tree_text (trees.Node object)) (flat_texts objects), object_weight object, objects_weight objects)

-- an array of objects has at least the bytes that they weigh
pub weight_for_each : (objects : List (List Field)) → weight_in objects ≤ length (array_text (map tree_text (map trees.Node objects)))
weight_for_each objects =
    omega (
      arith,
      objects_weight objects,
      commas_within (flat_texts objects),
      length-append (codes "[") (with_commas (flat_texts objects) ++ codes "]"),
      length-append (with_commas (flat_texts objects)) (codes "]"),
    )
