-- The keys under which fields are shown.
use Rattle.std.specs.Prelude.{ℕ, Bool, false, List, ◌∷◌, ◌++◌, Option, Some, None, codes, unwrap_or, if◌then◌else◌}
use Rattle.std.specs.List.{list_any}
use Rattle.std.specs.Str.{bytes_eq}
use Rattle.dg_text.specs.Marks.{tilde}
use Rattle.dg_parse.specs.declared.query.AggOp.{AggOp}
use Rattle.dg_parse.specs.declared.query.AggOp.TheVariants as aggregates
use Rattle.dg_parse.specs.declared.query.QEdge.{QEdge}
use Rattle.dg_parse.specs.declared.query.QField.{QField}
use Rattle.dg_parse.specs.declared.query.QItem.{QItem}
use Rattle.dg_parse.specs.declared.query.QItem.TheOpen.{QItem-F}
use Rattle.dg_parse.specs.declared.query.QItem.TheViews.{out-QItem}

-- a predicate, with "~" where it is followed backwards
abbrev pub edge_text : QEdge → List ℕ
edge_text e = if e.back then tilde ∷ e.pred else e.pred

-- the word of an aggregate
abbrev pub aggregate_word : AggOp → List ℕ
aggregate_word aggregates.Min = codes "min"
aggregate_word aggregates.Max = codes "max"
aggregate_word aggregates.Sum = codes "sum"

-- the key of the number of an edge's objects
abbrev pub count_key : QEdge → List ℕ
count_key e = codes "count(" ++ (edge_text e ++ codes ")")

-- the key of the value of a variable
abbrev pub val_key : List ℕ → List ℕ
val_key x = codes "val(" ++ (x ++ codes ")")

-- the key of an aggregate of a variable
abbrev pub agg_key : AggOp → List ℕ → List ℕ
agg_key op x = aggregate_word op ++ (codes "(val(" ++ (x ++ codes "))"))

-- the key of an item that has no alias, whatever stands for the fields in its braces
abbrev pub shown_key : {A B : Type 0} → QItem-F A B → List ℕ
shown_key QItem-F.Uid = codes "uid"
shown_key QItem-F.CountUid = codes "count"
shown_key (QItem-F.Count e) = count_key e
shown_key (QItem-F.Val x) = val_key x
shown_key (QItem-F.Agg op x) = agg_key op x
shown_key (QItem-F.Edge e args dirs fields) = edge_text e

-- the key of an item that has no alias
abbrev pub item_key : QItem → List ℕ
item_key item = shown_key (out-QItem item)

-- the key of a field: its alias, or else that of its item
abbrev pub key_of : QField → List ℕ
key_of f = unwrap_or f.alias (item_key f.item)

-- a field of this key stands among these
abbrev pub is_key : List QField → List ℕ → Bool
is_key fields key = list_any (λ f. bytes_eq key (key_of f)) fields

-- the same of an alias, where there is one
abbrev pub is_alias : List QField → Option (List ℕ) → Bool
is_alias fields None = false
is_alias fields (Some key) = is_key fields key
