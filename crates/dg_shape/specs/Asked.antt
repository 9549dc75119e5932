-- What fields ask of a node, for what is done to each thing that stands under an edge.
use Rattle.std.specs.Prelude.{ℕ, List, Bool, Option, Some, unwrap_or}
use Rattle.dg_tree.specs.declared.tree.Tree.{Tree}
use Rattle.dg_parse.specs.declared.query.QField.{QField}
use Rattle.dg_parse.specs.declared.query.QItem.{QItem}
use Rattle.dg_parse.specs.declared.query.QItem.TheOpen.{QItem-F, QField-F}
use Rattle.dg_parse.specs.declared.query.QItem.TheFolds.{fold-QField, fold-QItem}
use Rattle.dg_parse.specs.Keys.{shown_key}
use Rattle.dg_shape.specs.Keyed.{is_number, in_braces}

-- what a field asks of a node: its key, whether it is the number of nodes, and what is left of what stands under the key
pub record Asked : Type 0 where
  pub key : List ℕ
  pub numbers : Bool
  pub left : Tree → Option Tree

-- what is left of what stands under an item: an edge leaves what the fields in its braces do, and all else stays
abbrev pub left_of : (List Asked → Tree → Option Tree) → QItem-F Asked Asked → Tree → Option Tree
left_of below QItem-F.Uid t = Some t
left_of below QItem-F.CountUid t = Some t
left_of below (QItem-F.Count e) t = Some t
left_of below (QItem-F.Val x) t = Some t
left_of below (QItem-F.Agg op x) t = Some t
left_of below (QItem-F.Edge e args dirs braces) t = below (in_braces braces) t

-- an item, by what the fields in its braces ask
abbrev pub step_of_item : (List Asked → Tree → Option Tree) → QItem-F Asked Asked → Asked
step_of_item below item = record { key = shown_key item; numbers = is_number item; left = left_of below item }

-- a field, by its item
abbrev pub step_of_field : QField-F Asked Asked → Asked
step_of_field f = record { key = unwrap_or f.alias f.item.key; numbers = f.item.numbers; left = f.item.left }

-- what an item asks, where this is left below an edge
abbrev pub asked_by_item : (List Asked → Tree → Option Tree) → QItem → Asked
asked_by_item below = fold-QItem Asked Asked (step_of_item below) step_of_field

-- what a field asks
abbrev pub asked_by : (List Asked → Tree → Option Tree) → QField → Asked
asked_by below = fold-QField Asked Asked (step_of_item below) step_of_field
