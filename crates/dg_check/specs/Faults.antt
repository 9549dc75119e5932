-- What is wrong with a query: the first check that finds a fault decides, and finds it at its first place in the text.
use Rattle.std.specs.Prelude.{ℕ, ℤ, pos, List, [], ◌∷◌, ◌++◌, Bool, true, false, not, ◌&&◌, ◌||◌, if◌then◌else◌, Option, Some, None, is_some, option_map, codes, int_lt, Result, Ok, Err, map}
use Rattle.std.specs.Option.{option_or}
use Rattle.std.specs.List.{list_any, list_all}
use Rattle.dg_values.specs.declared.kind.Kind.{Kind}
use Rattle.dg_values.specs.declared.kind.Kind.TheVariants as kinds
use Rattle.dg_values.specs.declared.kind.Tokenizer.{Tokenizer}
use Rattle.dg_values.specs.declared.kind.Tokenizer.TheVariants as tokenizers
use Rattle.dg_values.specs.declared.reading.ValueFault.{ValueFault}
use Rattle.dg_values.specs.declared.reading.ValueFault.TheVariants as reads
use Rattle.dg_values.specs.declared.value.Value.{Value}
use Rattle.dg_values.specs.Scanning.{value_of_text}
use Rattle.dg_schema.specs.declared.definition.PredDef.{PredDef}
use Rattle.dg_schema.specs.Definitions.{definition_of}
use Rattle.dg_parse.specs.declared.query.AggOp.{AggOp}
use Rattle.dg_parse.specs.declared.query.AggOp.TheVariants as aggregates
use Rattle.dg_parse.specs.declared.query.CmpOp.{CmpOp}
use Rattle.dg_parse.specs.declared.query.CmpOp.TheVariants as ops
use Rattle.dg_parse.specs.declared.query.QArg.{QArg}
use Rattle.dg_parse.specs.declared.query.QArg.TheVariants as args
use Rattle.dg_parse.specs.declared.query.QEdge.{QEdge}
use Rattle.dg_parse.specs.declared.query.QFunc.{QFunc}
use Rattle.dg_parse.specs.declared.query.QFunc.TheVariants as funcs
use Rattle.dg_parse.specs.declared.query.QOf.{QOf}
use Rattle.dg_parse.specs.declared.query.QOf.TheVariants as of
use Rattle.dg_parse.specs.declared.query.QOpt.{QOpt}
use Rattle.dg_parse.specs.declared.query.QOpt.TheVariants as options
use Rattle.dg_parse.specs.declared.query.Query.{Query}
use Rattle.dg_parse.specs.declared.upsert.Upsert.{Upsert}
use Rattle.dg_check.specs.declared.content.Content.{Content}
use Rattle.dg_check.specs.declared.content.Content.TheVariants as contents
use Rattle.dg_check.specs.declared.fault.CheckFault.{CheckFault}
use Rattle.dg_check.specs.declared.fault.CheckFault.TheVariants as faults
use Rattle.dg_check.specs.declared.indexes.Index.{Index}
use Rattle.dg_check.specs.declared.indexes.Index.TheVariants as indexes
use Rattle.dg_check.specs.Places.{Place, defined, root, tested, arguments, recursion, edge, shown, aggregated, places_of_query}
use Rattle.dg_check.specs.Variables.{Definition, definitions_in, content_named, names_for, Use, uses_in, uses_of_mutations}
use Rattle.dg_check.specs.Names.{is_name_in}
use Rattle.dg_check.specs.declared.blocks.BlockNames.{BlockNames}
use Rattle.dg_check.specs.Blocks.{names_of_blocks}
use Rattle.dg_check.specs.Cycles.{least_circular}

-- the first fault that a check finds
abbrev pub first_of : {X : Type 0} → (X → Option CheckFault) → List X → Option CheckFault
first_of check [] = None
first_of check (x ∷ xs) = option_or (check x) (first_of check xs)

-- ---- UnknownVariable: no variable of the sort needed is defined, anywhere in the text

-- every variable has nodes, so any serves where they are used; `among` has the names that serve
abbrev pub unknown_among : (Bool → List (List ℕ)) → Use → Option CheckFault
unknown_among among u = if is_name_in (among u.values) u.name then None else Some (faults.UnknownVariable u.name)

-- the names of variables with values, or of all
abbrev pub among_two : List (List ℕ) → List (List ℕ) → Bool → List (List ℕ)
among_two valued all true = valued
among_two valued all false = all

-- the fault of a use, of which no variable of the sort needed is defined
abbrev pub unknown : List Definition → Use → Option CheckFault
unknown definitions = unknown_among (among_two (names_for true definitions) (names_for false definitions))

-- ---- VariableTwice: the first definition of a name that stands before it

-- the first name that stands before itself, behind those before
abbrev pub first_again : List (List ℕ) → List (List ℕ) → Option (List ℕ)
first_again before [] = None
first_again before (x ∷ names) = if is_name_in before x then Some x else first_again (before ++ x ∷ []) names

-- the fault of the first variable that is defined a second time
abbrev pub twice : List Definition → Option CheckFault
twice definitions = option_map faults.VariableTwice (first_again [] (map (λ d. d.name) definitions))

-- ---- NotIndexed: a predicate is declared without what its use needs

-- the index keeps the order of values
abbrev pub is_sortable : Tokenizer → Bool
is_sortable tokenizers.Exact = true
is_sortable tokenizers.Hash = false
is_sortable tokenizers.Term = false
is_sortable tokenizers.Trigram = false
is_sortable tokenizers.Int = true
is_sortable tokenizers.Bool = false
is_sortable tokenizers.Year = true
is_sortable tokenizers.Month = true
is_sortable tokenizers.Day = true
is_sortable tokenizers.Hour = true

-- equal values have tokens in common
abbrev pub is_for_equal : Tokenizer → Bool
is_for_equal tokenizers.Trigram = false
is_for_equal tokenizer = true

-- the tokens are terms
abbrev pub is_term : Tokenizer → Bool
is_term tokenizers.Term = true
is_term tokenizer = false

-- the tokens are runs of three characters
abbrev pub is_trigram : Tokenizer → Bool
is_trigram tokenizers.Trigram = true
is_trigram tokenizer = false

-- what an index has to be for
abbrev pub serves_index : Index → Tokenizer → Bool
serves_index indexes.Sortable = is_sortable
serves_index indexes.Equal = is_for_equal
serves_index indexes.Term = is_term
serves_index indexes.Trigram = is_trigram

-- NotIndexed, where the predicate is declared and its definition lacks what is needed
abbrev pub lacking : (PredDef → Bool) → List ℕ → List ℕ → Option PredDef → Option CheckFault
lacking is_enough p word None = None
lacking is_enough p word (Some d) = if is_enough d then None else Some (faults.NotIndexed p word)

-- a declared predicate has no such index
abbrev pub unindexed : List PredDef → Index → List ℕ → List ℕ → Option CheckFault
unindexed schema index p word = lacking (λ d. list_any (serves_index index) d.tokens) p word (definition_of schema p)

-- a declared predicate has no `@count`
abbrev pub uncounted : List PredDef → QEdge → Option CheckFault
uncounted schema e = lacking (λ d. d.count) e.pred (codes "count") (definition_of schema e.pred)

-- `~p` without `@reverse`
abbrev pub irreversible : List PredDef → QEdge → Option CheckFault
irreversible schema e = if e.back then lacking (λ d. d.reverse) e.pred (codes "~") (definition_of schema e.pred) else None

-- the word of a comparison
abbrev pub op_word : CmpOp → List ℕ
op_word ops.Eq = codes "eq"
op_word ops.Le = codes "le"
op_word ops.Lt = codes "lt"
op_word ops.Ge = codes "ge"
op_word ops.Gt = codes "gt"

-- what a comparison needs at a root: `eq` an index for equal values, any other one that keeps their order
abbrev pub op_index : CmpOp → Index
op_index ops.Eq = indexes.Equal
op_index op = indexes.Sortable

-- the word of a function of terms, for all of them or for any
abbrev pub terms_word : Bool → List ℕ
terms_word true = codes "allofterms"
terms_word false = codes "anyofterms"

-- of what a root compares: an index, or `@count`, whose word stands before `~`
abbrev pub unindexed_part : List PredDef → Index → List ℕ → QOf → Option CheckFault
unindexed_part schema index word (of.Pred p) = unindexed schema index p word
unindexed_part schema index word (of.Count e) = option_or (uncounted schema e) (irreversible schema e)
unindexed_part schema index word (of.Val x) = None

-- of the function of a root
abbrev pub unindexed_root : List PredDef → QFunc → Option CheckFault
unindexed_root schema (funcs.Uid uids) = None
unindexed_root schema (funcs.Cmp op part lits) = unindexed_part schema (op_index op) (op_word op) part
unindexed_root schema (funcs.Between part low high) = unindexed_part schema indexes.Sortable (codes "between") part
unindexed_root schema (funcs.Has e) = irreversible schema e
unindexed_root schema (funcs.Terms all p text) = unindexed schema indexes.Term p (terms_word all)
unindexed_root schema (funcs.Regexp p pattern fold) = unindexed schema indexes.Trigram p (codes "regexp")
unindexed_root schema (funcs.UidIn e uids) = irreversible schema e

-- in a filter no index is needed
abbrev pub irreversible_part : List PredDef → QOf → Option CheckFault
irreversible_part schema (of.Pred p) = None
irreversible_part schema (of.Count e) = irreversible schema e
irreversible_part schema (of.Val x) = None

-- of a function in a filter
abbrev pub irreversible_func : List PredDef → QFunc → Option CheckFault
irreversible_func schema (funcs.Uid uids) = None
irreversible_func schema (funcs.Cmp op part lits) = irreversible_part schema part
irreversible_func schema (funcs.Between part low high) = irreversible_part schema part
irreversible_func schema (funcs.Has e) = irreversible schema e
irreversible_func schema (funcs.Terms all p text) = None
irreversible_func schema (funcs.Regexp p pattern fold) = None
irreversible_func schema (funcs.UidIn e uids) = irreversible schema e

-- NotIndexed at a place
abbrev pub not_indexed_at : List PredDef → Place → Option CheckFault
not_indexed_at schema (defined x source) = None
not_indexed_at schema (root f) = unindexed_root schema f
not_indexed_at schema (tested f) = irreversible_func schema f
not_indexed_at schema (arguments args) = None
not_indexed_at schema (recursion options) = None
not_indexed_at schema (edge e) = irreversible schema e
not_indexed_at schema (shown x) = None
not_indexed_at schema (aggregated op x) = None

-- ---- BadLiteral: a literal doesn't read as the kind of what it is compared with; a sum isn't of whole numbers

-- the kind as which literals have to read, where there is one
abbrev pub kind_in : Content → Option Kind
kind_in contents.Nodes = Some kinds.Uid
kind_in (contents.Values kind) = Some kind
kind_in contents.Both = None

-- the kind of a variable, where it has one
abbrev pub kind_named : List Definition → List ℕ → Option Kind
kind_named definitions x = elim (content_named definitions x) [ None ↦ None | Some content ↦ kind_in content ]

-- the kind of what is compared: of its predicate, a whole number for a count, or of the variable
abbrev pub kind_of_part : List PredDef → List Definition → QOf → Option Kind
kind_of_part schema definitions (of.Pred p) = option_map (λ d. d.kind) (definition_of schema p)
kind_of_part schema definitions (of.Count e) = Some kinds.Int
kind_of_part schema definitions (of.Val x) = kind_named definitions x

-- the name that the fault gives: the predicate or the variable
abbrev pub name_of_part : QOf → List ℕ
name_of_part (of.Pred p) = p
name_of_part (of.Count e) = e.pred
name_of_part (of.Val x) = x

-- whether a value was read; nothing for want of memory
abbrev pub read_outcome : Result Value ValueFault → Option Bool
read_outcome (Ok v) = Some true
read_outcome (Err reads.BadLiteral) = Some false
read_outcome (Err reads.OutOfMemory) = None

-- no text reads as a node, and every text where there is no kind
abbrev pub reads_as : Option Kind → List ℕ → Bool
reads_as None literal = true
reads_as (Some kind) literal = is_some (value_of_text kind literal)

-- one of the literals doesn't read as the kind of what it is compared with
abbrev pub unread : List PredDef → List Definition → QOf → List (List ℕ) → Option CheckFault
unread schema definitions part lits = if list_all (reads_as (kind_of_part schema definitions part)) lits then None else Some (faults.BadLiteral (name_of_part part))

-- of a function; the text of a function of terms is no literal
abbrev pub unread_func : List PredDef → List Definition → QFunc → Option CheckFault
unread_func schema definitions (funcs.Uid uids) = None
unread_func schema definitions (funcs.Cmp op part lits) = unread schema definitions part lits
unread_func schema definitions (funcs.Between part low high) = unread schema definitions part (low ∷ high ∷ [])
unread_func schema definitions (funcs.Has e) = None
unread_func schema definitions (funcs.Terms all p text) = None
unread_func schema definitions (funcs.Regexp p pattern fold) = None
unread_func schema definitions (funcs.UidIn e uids) = None

-- a variable of a predicate that isn't declared has no kind, so it isn't of whole numbers
abbrev pub is_summed : Option Kind → Bool
is_summed (Some kinds.Int) = true
is_summed kind = false

-- a sum over a variable that isn't of whole numbers
abbrev pub bad_sum : List Definition → AggOp → List ℕ → Option CheckFault
bad_sum definitions aggregates.Sum x = if is_summed (kind_named definitions x) then None else Some (faults.BadLiteral x)
bad_sum definitions op x = None

-- BadLiteral at a place
abbrev pub bad_literal_at : List PredDef → List Definition → Place → Option CheckFault
bad_literal_at schema definitions (defined x source) = None
bad_literal_at schema definitions (root f) = unread_func schema definitions f
bad_literal_at schema definitions (tested f) = unread_func schema definitions f
bad_literal_at schema definitions (arguments args) = None
bad_literal_at schema definitions (recursion options) = None
bad_literal_at schema definitions (edge e) = None
bad_literal_at schema definitions (shown x) = None
bad_literal_at schema definitions (aggregated op x) = bad_sum definitions op x

-- ---- BadPage: an argument stands twice, is negative, or stands beside an order, where it can't

-- an order key, of which there may be several
abbrev pub is_order : QArg → Bool
is_order (args.Asc order) = true
is_order (args.Desc order) = true
is_order arg = false

-- the word of an argument
abbrev pub arg_word : QArg → List ℕ
arg_word (args.First n) = codes "first"
arg_word (args.Offset n) = codes "offset"
arg_word (args.After n) = codes "after"
arg_word (args.Asc order) = codes "orderasc"
arg_word (args.Desc order) = codes "orderdesc"

-- below 0
abbrev pub is_negative : ℤ → Bool
is_negative n = int_lt n (pos 0)

-- wrong by itself, where there is an order or not
abbrev pub is_misplaced : Bool → QArg → Bool
is_misplaced ordered (args.First n) = ordered && is_negative n
is_misplaced ordered (args.Offset n) = is_negative n
is_misplaced ordered (args.After n) = ordered
is_misplaced ordered (args.Asc order) = false
is_misplaced ordered (args.Desc order) = false

-- the same argument, other than an order
abbrev pub is_same_arg : QArg → QArg → Bool
is_same_arg (args.First n) (args.First m) = true
is_same_arg (args.Offset n) (args.Offset m) = true
is_same_arg (args.After n) (args.After m) = true
is_same_arg a b = false

-- it stands among those before, or is misplaced; an order is neither
abbrev pub is_wrong : Bool → List QArg → QArg → Bool
is_wrong ordered before arg = not (is_order arg) && (list_any (is_same_arg arg) before || is_misplaced ordered arg)

-- the first argument that is wrong, behind those before
abbrev pub bad_page_from : Bool → List QArg → List QArg → Option CheckFault
bad_page_from ordered before [] = None
bad_page_from ordered before (arg ∷ more) =
    if is_wrong ordered before arg then Some (faults.BadPage (arg_word arg))
    else bad_page_from ordered (before ++ arg ∷ []) more

-- the first argument that is wrong, in a list of them
abbrev pub bad_page : List QArg → Option CheckFault
bad_page args = bad_page_from (list_any is_order args) [] args

-- BadPage at a place
abbrev pub bad_page_at : Place → Option CheckFault
bad_page_at (defined x source) = None
bad_page_at (root f) = None
bad_page_at (tested f) = None
bad_page_at (arguments args) = bad_page args
bad_page_at (recursion options) = None
bad_page_at (edge e) = None
bad_page_at (shown x) = None
bad_page_at (aggregated op x) = None

-- ---- BadDepth: the depth of a recursion isn't 1 to 32; 0 stands for one that is missing

-- the depth that options give, or 0
abbrev pub depth_in : List QOpt → ℤ
depth_in [] = pos 0
depth_in (options.Depth n ∷ more) = n
depth_in (options.Again b ∷ more) = depth_in more

-- a depth below 1 or above 32
abbrev pub bad_depth : ℤ → Option CheckFault
bad_depth n = if int_lt n (pos 1) || int_lt (pos 32) n then Some (faults.BadDepth n) else None

-- BadDepth at a place
abbrev pub bad_depth_at : Place → Option CheckFault
bad_depth_at (defined x source) = None
bad_depth_at (root f) = None
bad_depth_at (tested f) = None
bad_depth_at (arguments args) = None
bad_depth_at (recursion options) = bad_depth (depth_in options)
bad_depth_at (edge e) = None
bad_depth_at (shown x) = None
bad_depth_at (aggregated op x) = None

-- ---- all checks, in their order

-- variables that are unknown or defined twice
abbrev pub fault_of_variables : List Definition → List Use → Option CheckFault
fault_of_variables definitions uses = option_or (first_of (unknown definitions) uses) (twice definitions)

-- arguments, then depths
abbrev pub fault_of_pages : List Place → Option CheckFault
fault_of_pages places = option_or (first_of bad_page_at places) (first_of bad_depth_at places)

-- literals, then arguments and depths
abbrev pub fault_of_literals : List PredDef → List Definition → List Place → Option CheckFault
fault_of_literals schema definitions places = option_or (first_of (bad_literal_at schema definitions) places) (fault_of_pages places)

-- behind the check for cycles: indexes, then literals, then pages, then depths
abbrev pub fault_behind : List PredDef → List Definition → List Place → Option CheckFault
fault_behind schema definitions places = option_or (first_of (not_indexed_at schema) places) (fault_of_literals schema definitions places)

-- a variable that is used in a block on which its own depends
abbrev pub cycle : List BlockNames → Option CheckFault
cycle blocks = option_map faults.VariableCycle (least_circular blocks)

-- the first fault of these blocks, places and uses; no pattern is refused
abbrev pub fault_among : List PredDef → List BlockNames → List Place → List Use → Option CheckFault
fault_among schema blocks places uses =
    option_or (fault_of_variables (definitions_in schema places) uses)
    (option_or (cycle blocks) (fault_behind schema (definitions_in schema places) places))

-- of a query
abbrev pub fault_of : List PredDef → Query → Option CheckFault
fault_of schema query = fault_among schema (names_of_blocks query.blocks) (places_of_query query) (uses_in (places_of_query query))

-- of an upsert block, whose mutations stand behind the query
abbrev pub fault_of_upsert : List PredDef → Upsert → Option CheckFault
fault_of_upsert schema upsert = fault_among schema (names_of_blocks upsert.query.blocks) (places_of_query upsert.query) (uses_in (places_of_query upsert.query) ++ uses_of_mutations upsert.muts)
