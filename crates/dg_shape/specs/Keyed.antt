-- Texts against the keys of fields.
use Rattle.std.specs.Prelude.{ℕ, List, [], Bool, true, false, Option, Some, None, bytes_eq}
use Rattle.dg_parse.specs.declared.query.QItem.TheOpen.{QItem-F}

-- whether what is left of a text, if it had the front that was asked for, is this
abbrev pub is_rest : Option (List ℕ) → List ℕ → Bool
is_rest None back = false
is_rest (Some rest) back = bytes_eq rest back

-- whether an item is the number of nodes of the list, which is no field of a node
abbrev pub is_number : {A B : Type 0} → QItem-F A B → Bool
is_number QItem-F.Uid = false
is_number QItem-F.CountUid = true
is_number (QItem-F.Count e) = false
is_number (QItem-F.Val x) = false
is_number (QItem-F.Agg op x) = false
is_number (QItem-F.Edge e args dirs braces) = false

-- the fields in braces; where there are none it is as if nothing stood in them
abbrev pub in_braces : {B : Type 0} → Option (List B) → List B
in_braces None = []
in_braces (Some fields) = fields
