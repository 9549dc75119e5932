-- Flat objects by their fields: how many bytes they take at least, and objects whose keys differ.
use Rattle.std.specs.Prelude.{ℕ, ◌+◌, ◌*◌, List, [], ◌∷◌, ◌≡◌, Bool, true, false, length, map, sum_by, bytes_eq}
use Rattle.std.specs.List.{list_any, AllByRecursion}
use Rattle.std.specs.BTreeSet.{BTreeSet, contains}
use Rattle.dg_values.specs.Order.{text_cmp}
use Rattle.dg_tree.specs.declared.tree.Field.{Field}
use Rattle.dg_tree.specs.declared.tree.Tree.TheVariants as trees
use Rattle.dg_tree.specs.Texts.{tree_text}

-- how many bytes an object takes in an array at least, with the comma behind it: seven with one field, and five for each more.
-- Without a field it takes none, since it isn't shown.
abbrev pub weight : List Field → ℕ
weight [] = 0
weight (pair ∷ pairs) = 7 + 5 * length pairs

-- how many bytes objects take at least
abbrev pub weight_in : List (List Field) → ℕ
weight_in = sum_by weight

-- no two fields have one key
abbrev pub AreApartPairs : List Field → Type 0
AreApartPairs [] = Unit {0}
AreApartPairs (pair ∷ pairs) = (list_any (λ p. bytes_eq p.key pair.key) pairs ≡ false) × AreApartPairs pairs

-- no two fields of an object have one key
abbrev pub AreAllApart : List (List Field) → Type 0
AreAllApart objects = AllByRecursion AreApartPairs objects

-- these are the keys of fields
abbrev pub HasKeys : BTreeSet (List ℕ) → List Field → Type 0
HasKeys keys fields = (key : List ℕ) → contains text_cmp keys key ≡ list_any (λ p. bytes_eq p.key key) fields

-- whether there is an object
abbrev pub has_object : List (List Field) → Bool
has_object [] = false
has_object (object ∷ objects) = true

-- the texts of objects
abbrev pub flat_texts : List (List Field) → List (List ℕ)
flat_texts objects = map tree_text (map trees.Node objects)
