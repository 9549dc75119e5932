-- When a function and a filter hold at a node. No index is asked: the node's own objects decide, or the subjects that
-- point to it, and what variables stand for.
use Rattle.std.specs.Prelude.{ℕ, pos, List, [], ◌∷◌, Bool, false, ◌==◌, nat_le, ◌%◌, ◌&&◌, not, if◌then◌else◌, length, is_some, Option, Some, None, option_to_list, filter, filter_map}
use Rattle.std.specs.List.{list_any, list_all}
use Rattle.std.specs.Ordering.{nat_cmp, is_eq, is_lt, is_le, is_gt, is_ge}
use Rattle.std.specs.Str.{is_utf8}
use Rattle.std.specs.declared.cmp.Ordering.{Ordering}
use Rattle.regex.specs.declared.string.regex.Regex.{Regex}
use Rattle.regex.specs.Patterns.{Re, find_str}
use Rattle.regex.specs.Strings.{regex_pattern}
use Rattle.dg_values.specs.declared.value.Value.{Value}
use Rattle.dg_values.specs.declared.value.Value.TheVariants.{Int, Text}
use Rattle.dg_values.specs.declared.value.Posting.{Posting}
use Rattle.dg_values.specs.declared.value.Posting.TheVariants as postings
use Rattle.dg_values.specs.Order.{text_cmp, value_cmp}
use Rattle.dg_values.specs.Ascending.{has}
use Rattle.dg_tokens.specs.Terms.{terms_of}
use Rattle.dg_graph.specs.declared.change.Triple.{Triple}
use Rattle.dg_graph.specs.Graphs.{objects}
use Rattle.dg_graph.specs.Lookups.{subjects_of, node_in, number_of}
use Rattle.dg_parse.specs.declared.query.QEdge.{QEdge}
use Rattle.dg_parse.specs.declared.query.CmpOp.{CmpOp}
use Rattle.dg_parse.specs.declared.query.CmpOp.TheVariants as ops
use Rattle.dg_check.specs.declared.parts.Of.{Of}
use Rattle.dg_check.specs.declared.parts.Of.TheVariants as part
use Rattle.dg_check.specs.declared.parts.Func.{Func}
use Rattle.dg_check.specs.declared.parts.Func.TheVariants as funcs
use Rattle.dg_check.specs.declared.parts.Filter.{Filter}
use Rattle.dg_check.specs.declared.parts.Part.{Part}
use Rattle.dg_check.specs.declared.parts.Part.TheOpen.{Filter-F, Part-F}
use Rattle.dg_check.specs.declared.parts.Part.TheFolds.{fold-Filter, fold-Part}
use Rattle.dg_check.specs.declared.vars.Variable.{Variable}
use Rattle.dg_check.specs.Vars.{value_at, named_nodes}

-- ---- what a function looks at

-- the value that an object is, if it is one
abbrev pub value_in : Posting → Option Value
value_in (postings.Uid n) = None
value_in (postings.Val v) = Some v

-- a node's values by a predicate, in order
abbrev pub values_at : List Triple → List ℕ → ℕ → List Value
values_at graph p node = filter_map value_in (objects graph p node)

-- the text that a value is, if it is one
abbrev pub text_in : Value → Option (List ℕ)
text_in (Text t) = Some t
text_in v = None

-- a node's texts by a predicate, in order
abbrev pub texts_at : List Triple → List ℕ → ℕ → List (List ℕ)
texts_at graph p node = filter_map text_in (values_at graph p node)

-- the nodes at the other end of an edge
abbrev pub nodes_along : List Triple → QEdge → ℕ → List ℕ
nodes_along graph edge node = if edge.back then subjects_of graph edge.pred (postings.Uid node) else filter_map node_in (objects graph edge.pred node)

-- how many objects a node has by an edge, or how many subjects point to it where the edge is followed backwards
abbrev pub count_along : List Triple → QEdge → ℕ → ℕ
count_along graph edge node = number_of graph edge.pred edge.back node

-- the values that a comparison looks at
abbrev pub compared : List Triple → List Variable → Of → ℕ → List Value
compared graph vars (part.Pred p) node = values_at graph p node
compared graph vars (part.Count edge) node = Int (pos (count_along graph edge node)) ∷ []
compared graph vars (part.Val place) node = option_to_list (value_at vars place node)

-- ---- what a function asks

-- what a comparison asks of an order
abbrev pub stands : CmpOp → Ordering → Bool
stands ops.Eq = is_eq
stands ops.Le = is_le
stands ops.Lt = is_lt
stands ops.Ge = is_ge
stands ops.Gt = is_gt

-- a value stands so to one of these
abbrev pub stands_to_any : CmpOp → List Value → Value → Bool
stands_to_any op values v = list_any (λ given. stands op (value_cmp v given)) values

-- a value is at or above the first of two, and at or below the second
abbrev pub is_between : List Value → Value → Bool
is_between (low ∷ high ∷ []) v = is_ge (value_cmp v low) && is_le (value_cmp v high)
is_between values v = false

-- of the terms that are asked, of which there is one at least, all are among these, or one is
abbrev pub has_terms : Bool → List (List ℕ) → List (List ℕ) → Bool
has_terms all asked terms = if all then list_all (has text_cmp terms) asked && nat_le 1 (length asked) else list_any (has text_cmp terms) asked

-- a pattern is found in a text, which is UTF-8
abbrev pub found_in : Re → List ℕ → Bool
found_in pattern text = is_utf8 text && is_some (find_str pattern text 0)

-- the same of a pattern that is built
abbrev pub finds : Regex → List ℕ → Bool
finds pattern text = found_in (regex_pattern pattern) text

-- ---- truth

-- a function holds at a node
abbrev pub holds_at : List Triple → List Variable → ℕ → Func → Bool
holds_at graph vars node (funcs.Uid named) = has nat_cmp (named_nodes vars named) node
holds_at graph vars node (funcs.Cmp op of kind values) = list_any (stands_to_any op values) (compared graph vars of node)
holds_at graph vars node (funcs.Between of kind values) = list_any (is_between values) (compared graph vars of node)
holds_at graph vars node (funcs.Has edge) = nat_le 1 (count_along graph edge node)
holds_at graph vars node (funcs.Terms all p text) = list_any (λ t. has_terms all (terms_of text) (terms_of t)) (texts_at graph p node)
holds_at graph vars node (funcs.Regexp p pattern) = list_any (finds pattern.value) (texts_at graph p node)
holds_at graph vars node (funcs.UidIn edge named) = list_any (has nat_cmp (named_nodes vars named)) (nodes_along graph edge node)

-- `or` holds where a part does, `and` where all do
abbrev pub step_of_part : (Func → Bool) → Part-F Bool Bool → Bool
step_of_part test (Part-F.Or parts) = list_any (λ b. b) parts
step_of_part test (Part-F.And parts) = list_all (λ b. b) parts
step_of_part test (Part-F.Func f) = test f

-- behind an odd number of `not` the other way round
abbrev pub negated : ℕ → Bool → Bool
negated nots b = if nots % 2 == 1 then not b else b

-- the same of a part behind its number of `not`
abbrev pub step_of_filter : Filter-F Bool Bool → Bool
step_of_filter filter = negated filter.nots filter.part

-- a filter holds at a node
abbrev pub passes : List Triple → List Variable → ℕ → Filter → Bool
passes graph vars node = fold-Filter Bool Bool (step_of_part (holds_at graph vars node)) step_of_filter

-- what `not` stands before holds at a node
abbrev pub part_passes : List Triple → List Variable → ℕ → Part → Bool
part_passes graph vars node = fold-Part Bool Bool (step_of_part (holds_at graph vars node)) step_of_filter

-- those of these nodes at which a filter holds
abbrev pub passed : List Triple → List Variable → Filter → List ℕ → List ℕ
passed graph vars f nodes = filter (λ n. passes graph vars n f) nodes
