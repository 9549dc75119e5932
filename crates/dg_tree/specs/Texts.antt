-- The text of an answer, as JSON without blanks.
use Rattle.std.specs.Prelude.{ℕ, zero, suc, List, [], ◌++◌, map, codes}
use Rattle.std.specs.Fmt.{signed_decimal}
use Rattle.std.specs.List.{join_by}
use Rattle.json.specs.Print.{quoted}
use Rattle.dg_values.specs.Printing.{truth_text}
use Rattle.dg_tree.specs.declared.tree.Field.{Field}
use Rattle.dg_tree.specs.declared.tree.Tree.{Tree}
use Rattle.dg_tree.specs.declared.tree.Tree.TheOpen.{Tree-F, Field-F}
use Rattle.dg_tree.specs.declared.tree.Tree.TheFolds.{fold-Tree, fold-Field}

-- texts with a comma between any two
abbrev pub with_commas : List (List ℕ) → List ℕ
with_commas = join_by (λ text. text) (codes ",")

-- the comma before the text at a place, which the first doesn't have
abbrev pub comma_before : ℕ → List ℕ
comma_before zero = []
comma_before (suc place) = codes ","

-- the text of an array, by those of its trees
abbrev pub array_text : List (List ℕ) → List ℕ
array_text trees = codes "[" ++ (with_commas trees ++ codes "]")

-- the text of an object, by those of its fields
abbrev pub object_text : List (List ℕ) → List ℕ
object_text fields = codes "{" ++ (with_commas fields ++ codes "}")

-- the text of a key: a string of JSON (RFC 8259, section 7), and a colon
abbrev pub key_text : List ℕ → List ℕ
key_text key = quoted key ++ codes ":"

-- the text of a field, by that of its tree: the key and the tree
abbrev pub text_of_field : Field-F (List ℕ) (List ℕ) → List ℕ
text_of_field field = key_text field.key ++ field.tree

-- the text of a tree, by those of the trees and fields in it
abbrev pub text_of_tree : Tree-F (List ℕ) (List ℕ) → List ℕ
text_of_tree (Tree-F.Int n) = signed_decimal n
text_of_tree (Tree-F.Bool b) = truth_text b
text_of_tree (Tree-F.Text text) = quoted text
text_of_tree (Tree-F.Array trees) = array_text trees
text_of_tree (Tree-F.Node fields) = object_text fields

-- the text of a tree
abbrev pub tree_text : Tree → List ℕ
tree_text = fold-Tree (List ℕ) (List ℕ) text_of_tree text_of_field

-- the text of a field
abbrev pub field_text : Field → List ℕ
field_text = fold-Field (List ℕ) (List ℕ) text_of_tree text_of_field

-- the text of an answer, by its blocks: `{"data":`, the object of the blocks, and `}`
abbrev pub answer_text : List Field → List ℕ
answer_text blocks = codes "{\"data\":" ++ (object_text (map field_text blocks) ++ codes "}")
