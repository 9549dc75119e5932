-- The reply of a mutation: the new nodes by their names.
use Rattle.std.specs.Prelude.{ℕ, ◌+◌, false, List, [], ◌∷◌, ◌++◌, map, codes}
use Rattle.std.specs.Fmt.{digits}
use Rattle.std.specs.declared.cmp.Ordering.{Ordering}
use Rattle.std.specs.Ordering.{nat_cmp, ordering_then}
use Rattle.dg_values.specs.Ascending.{ascending}
use Rattle.dg_values.specs.Order.{text_cmp}
use Rattle.dg_tree.specs.Texts.{with_commas}
use Rattle.dg_node.specs.declared.new_uids.Numbered.{Numbered}

-- names, numbered in their order from `first`
abbrev pub numbered : ℕ → List (List ℕ) → List Numbered
numbered first [] = []
numbered first (name ∷ names) = (record { name = name; uid = first }) ∷ numbered (first + 1) names

-- by the bytes of the name
abbrev pub numbered_cmp : Numbered → Numbered → Ordering
numbered_cmp a b = ordering_then (text_cmp a.name b.name) (nat_cmp a.uid b.uid)

-- `"NAME":"0xUID"`; a name is letters, digits and _, or `uid(X)` of a variable, in whose name dots may stand: it is its own string of JSON
abbrev pub member_text : Numbered → List ℕ
member_text n = codes "\"" ++ (n.name ++ (codes "\":\"0x" ++ (digits 16 false n.uid ++ codes "\"")))

-- `{"uids":{..}}` with the names in the order of their bytes
abbrev pub uids_text : ℕ → List (List ℕ) → List ℕ
uids_text first names = codes "{\"uids\":{" ++ (with_commas (map member_text (ascending numbered_cmp (numbered first names))) ++ codes "}}")
