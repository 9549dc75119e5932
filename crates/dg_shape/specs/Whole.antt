-- Nodes of whole trees: of each field that has something, what it has, under its key.
use Rattle.std.specs.Prelude.{◌≡◌, List, [], ◌∷◌, ◌||◌, Bool, true, false, if◌then◌else◌, Option, Some, None, is_some, option_map, option_and_then, bytes_eq}
use Rattle.std.specs.List.{list_all, cons_option, AllByRecursion}
use Rattle.dg_tree.specs.declared.tree.Tree.{Tree}
use Rattle.dg_tree.specs.declared.tree.Field.{Field}
use Rattle.dg_parse.specs.declared.query.QField.{QField}
use Rattle.dg_parse.specs.declared.query.QItem.TheViews.{out-QItem}
use Rattle.dg_parse.specs.Keys.{key_of}
use Rattle.dg_shape.specs.Keyed.{is_number}
use Rattle.dg_shape.specs.Asked.{Asked, asked_by}
use Rattle.dg_shape.specs.Cascade.{cut_below, to_remain, remaining}
use Rattle.dg_shape.specs.Strip.{shown_below, to_show, shown_fields}

-- no two fields of one key
abbrev pub AreApart : List QField → Type 0
AreApart [] = Unit {0}
AreApart (q ∷ fields) = AllByRecursion (λ r. bytes_eq (key_of r) (key_of q) ≡ false) fields × AreApart fields

-- the fields of a node, by what each field of the query has there
abbrev pub fields_with : (QField → Option Tree) → List QField → List Field
fields_with had [] = []
fields_with had (q ∷ fields) = cons_option (option_map (λ t. record { key = key_of q; tree = t }) (had q)) (fields_with had fields)

-- what is left of what each field has
abbrev pub left_by : (List Asked → Tree → Option Tree) → (QField → Option Tree) → QField → Option Tree
left_by below had q = option_and_then (asked_by below q).left (had q)

-- nothing is left out of a field, or it is the number of nodes, which is no field of a node
abbrev pub stays_by : (List Asked → Tree → Option Tree) → (QField → Option Tree) → QField → Bool
stays_by below had q = is_number (out-QItem q.item) || is_some (left_by below had q)

-- of each field what is left of it is shown
abbrev pub IsShownByField : Type 0
IsShownByField = (fields : List QField) (had : QField → Option Tree) → AreApart fields → shown_fields (to_show fields) (fields_with had fields) ≡ fields_with (left_by shown_below had) fields

-- the number of nodes is nothing that a node has
abbrev pub HasNoNumbers : (QField → Option Tree) → List QField → Type 0
HasNoNumbers had fields = AllByRecursion (λ q. is_number (out-QItem q.item) ≡ true → had q ≡ None) fields

-- a node remains with what remains of each field, where something does of each
abbrev pub IsCutByField : Type 0
IsCutByField = (fields : List QField) (had : QField → Option Tree) → AreApart fields → HasNoNumbers had fields
    → remaining (to_remain fields) (fields_with had fields) ≡ (if list_all (stays_by cut_below had) fields then Some (fields_with (left_by cut_below had) fields) else None)
