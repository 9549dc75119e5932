-- The keys under which subjects are filed by their objects, the lists of nodes that filings make, and what these gain and lose.
use Rattle.std.specs.Prelude.{ℕ, ◌+◌, ◌-◌, nat_le, Bool, false, ◌&&◌, List, [], ◌∷◌, ◌++◌, Option, Some, None, if◌then◌else◌, fold, map, flat_map, length, sum_by}
use Rattle.std.specs.Ordering.{is_eq}
use Rattle.dg_values.specs.Order.{posting_cmp}
use Rattle.dg_values.specs.Ascending.{ascending, with_one}
use Rattle.dg_values.specs.declared.kind.Tokenizer.{Tokenizer}
use Rattle.dg_values.specs.declared.value.Posting.{Posting}
use Rattle.dg_values.specs.declared.value.Posting.TheVariants.{Uid, Val}
use Rattle.dg_tokens.specs.declared.tokens.IndexToken.{IndexToken}
use Rattle.dg_delta.specs.declared.op.Op.{Op}
use Rattle.dg_delta.specs.declared.op.Op.TheVariants.{Set, Del}
use Rattle.dg_delta.specs.Ops.{changes_between}
use Rattle.dg_schema.specs.declared.definition.PredDef.{PredDef}
use Rattle.dg_schema.specs.Definitions.{definition_of}
use Rattle.dg_graph.specs.declared.change.Triple.{Triple}
use Rattle.dg_graph.specs.Lookups.{tokens_of_object, subjects_of}
use Rattle.dg_keys.specs.declared.key.Key.{Key}
use Rattle.dg_keys.specs.declared.key.Key.TheVariants.{Data, Index, Reverse, Count, RCount}
use Rattle.dg_keys.specs.declared.record.Part.{Part}
use Rattle.dg_keys.specs.Keys.{key_cmp}
use Rattle.dg_edges.specs.Deltas.{parts_at}
use Rattle.dg_edges.specs.declared.filing.Filed.{Filed}

-- ---- where a subject is filed

-- under a token
abbrev pub filed_token : List ℕ → ℕ → IndexToken → Filed
filed_token p s t = record { key = Index p t; node = s }

-- under the tokens of an object by one tokenizer
abbrev pub filed_by : List ℕ → ℕ → Posting → Tokenizer → List Filed
filed_by p s o tokenizer = map (filed_token p s) (tokens_of_object tokenizer o)

-- under a node that it points to
abbrev pub filed_node : List ℕ → ℕ → Posting → List Filed
filed_node p s (Uid n) = (record { key = Reverse p n; node = s }) ∷ []
filed_node p s (Val value) = []

-- the same, where the predicate has such lists
abbrev pub filed_back : PredDef → List ℕ → ℕ → Posting → List Filed
filed_back def p s o = if def.reverse then filed_node p s o else []

-- under an object
abbrev pub filed_object : PredDef → List ℕ → ℕ → Posting → List Filed
filed_object def p s o = flat_map (filed_by p s o) def.tokens ++ filed_back def p s o

-- under a number from 1 on
abbrev pub filed_number : List ℕ → ℕ → ℕ → List Filed
filed_number p s n = if nat_le 1 n then (record { key = Count p n; node = s }) ∷ [] else []

-- the same, where the predicate has such lists
abbrev pub filed_count : PredDef → List ℕ → ℕ → ℕ → List Filed
filed_count def p s n = if def.count then filed_number p s n else []

-- under its objects
abbrev pub filed_under : PredDef → List ℕ → ℕ → List Posting → List Filed
filed_under def p s objects = flat_map (filed_object def p s) objects ++ filed_count def p s (length objects)

-- the same, where its predicate has this definition
abbrev pub filed_if : Option PredDef → List ℕ → ℕ → List Posting → List Filed
filed_if None p s objects = []
filed_if (Some def) p s objects = filed_under def p s objects

-- the subject of a key, with these objects
abbrev pub filed_at : List PredDef → Key → List Posting → List Filed
filed_at schema (Data p s) objects = filed_if (definition_of schema p) p s objects
filed_at schema key objects = []

-- ---- the lists that filings make

-- the list at a key with one filing more
abbrev pub with_filed : Filed → Key → List Posting → List Posting
with_filed filed key nodes = if is_eq (key_cmp key filed.key) then with_one posting_cmp nodes (Uid filed.node) else nodes

-- the list at a key
abbrev pub nodes_under : List Filed → Key → List Posting
nodes_under filed key = fold (λ nodes f. with_filed f key nodes) [] filed

-- the keys of filings, ascending
abbrev pub filed_keys : List Filed → List Filed → List Key
filed_keys before after = ascending key_cmp (map (λ f. f.key) before ++ map (λ f. f.key) after)

-- what the lists gain and lose from some filings to others
abbrev pub filed_parts : List Filed → List Filed → List Part
filed_parts before after = parts_at (λ key. changes_between (nodes_under before key) (nodes_under after key)) (filed_keys before after)

-- ---- nodes by how many subjects point to them

-- the predicate with this definition has lists of them
abbrev pub is_counted_by : Option PredDef → Bool
is_counted_by None = false
is_counted_by (Some def) = def.reverse && def.count

-- the predicate has lists of them
abbrev pub is_counted : List PredDef → List ℕ → Bool
is_counted schema p = is_counted_by (definition_of schema p)

-- a node under the number of its subjects, from 1 on
abbrev pub filed_subjects : List ℕ → ℕ → ℕ → List Filed
filed_subjects p o n = if nat_le 1 n then (record { key = RCount p n; node = o }) ∷ [] else []

-- how many subjects an operation adds
abbrev pub added_by : Op → ℕ
added_by (Set o) = 1
added_by (Del o) = 0

-- how many it takes away
abbrev pub taken_by : Op → ℕ
taken_by (Set o) = 0
taken_by (Del o) = 1

-- a number after operations
abbrev pub number_after : ℕ → List Op → ℕ
number_after n ops = (n + sum_by added_by ops) - sum_by taken_by ops

-- a key's node under the number of its subjects, where these are counted
abbrev pub filed_before : List PredDef → List Triple → Key → List Filed
filed_before schema graph (Reverse p o) = if is_counted schema p then filed_subjects p o (length (subjects_of graph p (Uid o))) else []
filed_before schema graph key = []

-- the same after the operations on the list of its subjects
abbrev pub filed_after : List PredDef → List Triple → Key → List Op → List Filed
filed_after schema graph (Reverse p o) ops = if is_counted schema p then filed_subjects p o (number_after (length (subjects_of graph p (Uid o))) ops) else []
filed_after schema graph key ops = []

-- how many lists are read for that
abbrev pub counted_reads : List PredDef → Key → ℕ
counted_reads schema (Reverse p o) = if is_counted schema p then 1 else 0
counted_reads schema key = 0

-- how many of these parts are of nodes whose subjects are counted
abbrev pub counted_parts : List PredDef → List Part → ℕ
counted_parts schema parts = sum_by (λ part. counted_reads schema part.key) parts
