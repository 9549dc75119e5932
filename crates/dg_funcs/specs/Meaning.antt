-- What functions and filters mean by the text of a query: where they hold, and the nodes that a function gives at a root. Literals and
-- patterns stand as they are written, and variables by their names. No schema is asked: the graph's own values tell their kinds.
use Rattle.std.specs.Prelude.{ℕ, pos, List, [], ◌∷◌, Bool, true, false, nat_le, ◌&&◌, Option, Some, None, option_to_list, chars, filter, flat_map}
use Rattle.std.specs.List.{list_any, list_all, position_or_len}
use Rattle.std.specs.Ordering.{nat_cmp}
use Rattle.regex_syntax.specs.Brackets.{Nested}
use Rattle.regex_syntax.specs.Grammar.{Names, read}
use Rattle.regex.specs.Patterns.{Re}
use Rattle.dg_values.specs.Ascending.{ascending, has}
use Rattle.dg_values.specs.Order.{same_text, value_cmp}
use Rattle.dg_values.specs.Scanning.{value_of_text}
use Rattle.dg_values.specs.declared.kind.Kind.{Kind}
use Rattle.dg_values.specs.declared.kind.Kind.TheVariants as kinds
use Rattle.dg_values.specs.declared.value.Value.{Value}
use Rattle.dg_values.specs.declared.value.Value.TheVariants.{Int, Text, Bool as Truth, Time}
use Rattle.dg_tokens.specs.Terms.{terms_of}
use Rattle.dg_graph.specs.declared.change.Triple.{Triple}
use Rattle.dg_graph.specs.Lookups.{holders}
use Rattle.dg_parse.specs.declared.query.CmpOp.{CmpOp}
use Rattle.dg_parse.specs.declared.query.CmpOp.TheVariants as ops
use Rattle.dg_parse.specs.declared.query.QFilter.{QFilter, QFilter-F, fold-QFilter}
use Rattle.dg_parse.specs.declared.query.QFunc.{QFunc}
use Rattle.dg_parse.specs.declared.query.QFunc.TheVariants as funcs
use Rattle.dg_parse.specs.declared.query.QOf.{QOf}
use Rattle.dg_parse.specs.declared.query.QOf.TheVariants as part
use Rattle.dg_parse.specs.declared.query.QPart.{QPart, QPart-F, fold-QPart}
use Rattle.dg_parse.specs.declared.query.UidArg.{UidArg}
use Rattle.dg_parse.specs.declared.query.UidArg.TheVariants as named
use Rattle.dg_check.specs.declared.vars.Variable.{Variable}
use Rattle.dg_check.specs.Vars.{nodes_of, value_at}
use Rattle.dg_check.specs.Patterns.{config_of}
use Rattle.dg_funcs.specs.Truth.{values_at, texts_at, nodes_along, count_along, stands, has_terms, found_in, negated}
use Rattle.dg_funcs.specs.Roots.{nodes_with}

-- ---- literals

-- the kind of a value
abbrev pub kind_of : Value → Kind
kind_of (Int n) = kinds.Int
kind_of (Text t) = kinds.Text
kind_of (Truth b) = kinds.Bool
kind_of (Time m) = kinds.Time

-- a value stands so to another one, where there is one
abbrev pub stands_to_read : CmpOp → Value → Option Value → Bool
stands_to_read op v None = false
stands_to_read op v (Some given) = stands op (value_cmp v given)

-- a value stands so to a literal, which is read as the kind of that value, and to none that doesn't read so
abbrev pub text_stands_to : CmpOp → Value → List ℕ → Bool
text_stands_to op v literal = stands_to_read op v (value_of_text (kind_of v) literal)

-- a value stands so to one of these literals
abbrev pub text_stands_to_any : CmpOp → List (List ℕ) → Value → Bool
text_stands_to_any op literals v = list_any (text_stands_to op v) literals

-- a value is at or above the first literal, and at or below the second
abbrev pub text_is_between : List ℕ → List ℕ → Value → Bool
text_is_between low high v = text_stands_to ops.Ge v low && text_stands_to ops.Le v high

-- ---- variables

-- the place of a variable among these names
abbrev pub place_in : List (List ℕ) → List ℕ → ℕ
place_in names x = position_or_len (same_text x) names

-- the nodes for which a name stands: one by its number, or those of a variable
abbrev pub text_nodes_named : List (List ℕ) → List Variable → UidArg → List ℕ
text_nodes_named names vars (named.Uid n) = n ∷ []
text_nodes_named names vars (named.Var x) = nodes_of vars (place_in names x)

-- the nodes for which names stand
abbrev pub text_named_nodes : List (List ℕ) → List Variable → List UidArg → List ℕ
text_named_nodes names vars uids = flat_map (text_nodes_named names vars) uids

-- the values that a comparison looks at
abbrev pub text_compared : List Triple → List (List ℕ) → List Variable → QOf → ℕ → List Value
text_compared graph names vars (part.Pred p) node = values_at graph p node
text_compared graph names vars (part.Count edge) node = Int (pos (count_along graph edge node)) ∷ []
text_compared graph names vars (part.Val x) node = option_to_list (value_at vars (place_in names x) node)

-- ---- patterns

-- what the grammar of patterns reads in a text; `fold` goes without regard to case
abbrev pub pattern_read : List ℕ → Bool → Option (Nested Re × Names)
pattern_read pattern fold = read (record (config_of fold) { utf8 = true }) (chars pattern)

-- what is read is found in a text; where nothing is read, nothing is found
abbrev pub found_by_read : Option (Nested Re × Names) → List ℕ → Bool
found_by_read None t = false
found_by_read (Some (tree, names)) t = found_in tree.value t

-- a pattern is found in a text
abbrev pub found_by : List ℕ → Bool → List ℕ → Bool
found_by pattern fold t = found_by_read (pattern_read pattern fold) t

-- ---- truth

-- a function holds at a node
abbrev pub text_holds_at : List Triple → List (List ℕ) → List Variable → ℕ → QFunc → Bool
text_holds_at graph names vars node (funcs.Uid uids) = has nat_cmp (text_named_nodes names vars uids) node
text_holds_at graph names vars node (funcs.Cmp op of literals) = list_any (text_stands_to_any op literals) (text_compared graph names vars of node)
text_holds_at graph names vars node (funcs.Between of low high) = list_any (text_is_between low high) (text_compared graph names vars of node)
text_holds_at graph names vars node (funcs.Has edge) = nat_le 1 (count_along graph edge node)
text_holds_at graph names vars node (funcs.Terms all p text) = list_any (λ t. has_terms all (terms_of text) (terms_of t)) (texts_at graph p node)
text_holds_at graph names vars node (funcs.Regexp p pattern fold) = list_any (found_by pattern fold) (texts_at graph p node)
text_holds_at graph names vars node (funcs.UidIn edge uids) = list_any (has nat_cmp (text_named_nodes names vars uids)) (nodes_along graph edge node)

-- `or` holds where a part does, `and` where all do
abbrev pub text_step_of_part : (QFunc → Bool) → QPart-F Bool Bool → Bool
text_step_of_part test (QPart-F.Or parts) = list_any (λ b. b) parts
text_step_of_part test (QPart-F.And parts) = list_all (λ b. b) parts
text_step_of_part test (QPart-F.Func f) = test f

-- the same of a part behind its number of `not`
abbrev pub text_step_of_filter : QFilter-F Bool Bool → Bool
text_step_of_filter filter = negated filter.nots filter.part

-- a filter holds at a node
abbrev pub text_passes : List Triple → List (List ℕ) → List Variable → ℕ → QFilter → Bool
text_passes graph names vars node = fold-QFilter Bool Bool (text_step_of_part (text_holds_at graph names vars node)) text_step_of_filter

-- what `not` stands before holds at a node
abbrev pub text_part_passes : List Triple → List (List ℕ) → List Variable → ℕ → QPart → Bool
text_part_passes graph names vars node = fold-QPart Bool Bool (text_step_of_part (text_holds_at graph names vars node)) text_step_of_filter

-- ---- roots

-- the nodes of which a comparison is asked
abbrev pub text_nodes_of_part : List Triple → List (List ℕ) → List Variable → QOf → List ℕ
text_nodes_of_part graph names vars (part.Pred p) = holders graph p
text_nodes_of_part graph names vars (part.Count edge) = nodes_with graph edge
text_nodes_of_part graph names vars (part.Val x) = nodes_of vars (place_in names x)

-- the nodes of which a function is asked where it stands at the root
abbrev pub text_candidates : List Triple → List (List ℕ) → List Variable → QFunc → List ℕ
text_candidates graph names vars (funcs.Uid uids) = ascending nat_cmp (text_named_nodes names vars uids)
text_candidates graph names vars (funcs.Cmp op of literals) = text_nodes_of_part graph names vars of
text_candidates graph names vars (funcs.Between of low high) = text_nodes_of_part graph names vars of
text_candidates graph names vars (funcs.Has edge) = nodes_with graph edge
text_candidates graph names vars (funcs.Terms all p text) = holders graph p
text_candidates graph names vars (funcs.Regexp p pattern fold) = holders graph p
text_candidates graph names vars (funcs.UidIn edge uids) = nodes_with graph edge

-- those of them at which it holds: all of those that are named by `uid`
abbrev pub text_root_nodes : List Triple → List (List ℕ) → List Variable → QFunc → List ℕ
text_root_nodes graph names vars f = filter (λ n. text_holds_at graph names vars n f) (text_candidates graph names vars f)
