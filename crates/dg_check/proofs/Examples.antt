-- Faults of queries, and the order in which blocks run, by computing.
use Rattle.std.specs.Prelude.{◌≡◌, ℕ, pos, negsuc, List, [], ◌∷◌, ◌++◌, true, false, codes, refl, Option, Some, None, map, flat_map}
use Rattle.dg_values.specs.declared.kind.Kind.{Kind}
use Rattle.dg_values.specs.declared.kind.Kind.TheVariants as kinds
use Rattle.dg_values.specs.declared.kind.Tokenizer.{Tokenizer}
use Rattle.dg_values.specs.declared.kind.Tokenizer.TheVariants as tokenizers
use Rattle.dg_schema.specs.declared.definition.PredDef.{PredDef}
use Rattle.dg_parse.specs.declared.query.AggOp.TheVariants as aggregates
use Rattle.dg_parse.specs.declared.query.CmpOp.TheVariants as ops
use Rattle.dg_parse.specs.declared.query.QArg.{QArg}
use Rattle.dg_parse.specs.declared.query.QArg.TheVariants as args
use Rattle.dg_parse.specs.declared.query.QEdge.{QEdge}
use Rattle.dg_parse.specs.declared.query.QFunc.{QFunc}
use Rattle.dg_parse.specs.declared.query.QFunc.TheVariants as funcs
use Rattle.dg_parse.specs.declared.query.QOf.TheVariants as of
use Rattle.dg_parse.specs.declared.query.QOpt.TheVariants as options
use Rattle.dg_parse.specs.declared.query.QOrder.TheVariants as orders
use Rattle.dg_parse.specs.declared.query.UidArg.TheVariants as named
use Rattle.dg_check.specs.declared.fault.CheckFault.{CheckFault}
use Rattle.dg_check.specs.declared.fault.CheckFault.TheVariants as faults
use Rattle.dg_check.specs.Faults.{fault_among}
use Rattle.dg_check.specs.Places.{Place, root, arguments, recursion, edge, shown, aggregated, listed, counted, followed, place_of_var}
use Rattle.dg_check.specs.Blocks.{names_of_block}
use Rattle.dg_check.specs.Variables.{uses_in}
use Rattle.dg_check.specs.RunOrder.{dependencies, run_order}

abbrev declared_as : List ℕ → Kind → List Tokenizer → PredDef
declared_as name kind tokens = record { name = name; kind = kind; list = false; tokens = tokens; reverse = false; count = false; upsert = false }

-- `name` with an index, `title` with one of trigrams, `done` with one that keeps no order, `age` with none, and `friend`, which leads forward alone
abbrev schema : List PredDef
schema =
    declared_as (codes "name") kinds.Text (tokenizers.Exact ∷ []) ∷ declared_as (codes "title") kinds.Text (tokenizers.Trigram ∷ [])
    ∷ declared_as (codes "done") kinds.Bool (tokenizers.Bool ∷ []) ∷ declared_as (codes "age") kinds.Int [] ∷ declared_as (codes "friend") kinds.Uid [] ∷ []

abbrev forward : List ℕ → QEdge
forward p = record { back = false; pred = p }

abbrev backward : List ℕ → QEdge
backward p = record { back = true; pred = p }

-- fields: `x as uid`, an edge, a count, the value of x
abbrev uid_field : Option (List ℕ) → List Place
uid_field var = place_of_var var listed

abbrev edge_field : Option (List ℕ) → QEdge → List Place
edge_field var e = place_of_var var (followed e) ++ edge e ∷ arguments [] ∷ []

abbrev count_field : Option (List ℕ) → QEdge → List Place
count_field var e = place_of_var var (counted e) ++ edge e ∷ []

abbrev block : Option (List ℕ) → QFunc → List QArg → List Place → List Place
block var func args more = place_of_var var listed ++ (root func ∷ arguments args ∷ more)

abbrev fault : List (List Place) → Option CheckFault
fault blocks = fault_among schema (map names_of_block blocks) (flat_map (λ places. places) blocks) (uses_in (flat_map (λ places. places) blocks))

abbrev at_one : QFunc
at_one = funcs.Uid (named.Uid 1 ∷ [])

abbrev at_var : List ℕ → QFunc
at_var x = funcs.Uid (named.Var x ∷ [])

abbrev x : List ℕ
x = codes "x"

abbrev y : List ℕ
y = codes "y"

no_fault : fault (block None at_one [] [] ∷ []) ≡ None
no_fault = refl

unknown : fault (block None (at_var x) [] [] ∷ []) ≡ Some (faults.UnknownVariable x)
unknown = refl

-- a variable of nodes has no values
no_values : fault (block (Some x) at_one [] [] ∷ block None (at_var x) [] (shown x ∷ []) ∷ []) ≡ Some (faults.UnknownVariable x)
no_values = refl

-- a declared predicate that is followed backwards leads to nodes, whatever its kind
backward_has_no_values : fault (block None at_one [] (edge_field (Some x) (backward (codes "age"))) ∷ block None (at_var x) [] (shown x ∷ []) ∷ []) ≡ Some (faults.UnknownVariable x)
backward_has_no_values = refl

-- one that isn't declared serves as both
undeclared_serves : fault (block None at_one [] (edge_field (Some x) (backward (codes "nick"))) ∷ block None (at_var x) [] (shown x ∷ []) ∷ []) ≡ None
undeclared_serves = refl

twice : fault (block None at_one [] (uid_field (Some x)) ∷ block None at_one [] (uid_field (Some x)) ∷ []) ≡ Some (faults.VariableTwice x)
twice = refl

cycle : fault (block (Some x) (at_var y) [] [] ∷ block (Some y) (at_var x) [] [] ∷ []) ≡ Some (faults.VariableCycle x)
cycle = refl

-- a variable of nodes has no values in its own block either
own_values : fault (block (Some x) at_one [] (shown x ∷ []) ∷ []) ≡ Some (faults.UnknownVariable x)
own_values = refl

-- a block depends on itself
own_use : fault (block (Some x) (at_var x) [] [] ∷ []) ≡ Some (faults.VariableCycle x)
own_use = refl

not_indexed : fault (block None (funcs.Cmp ops.Ge (of.Pred (codes "age")) (codes "3" ∷ [])) [] [] ∷ []) ≡ Some (faults.NotIndexed (codes "age") (codes "ge"))
not_indexed = refl

-- an index of truth values serves `eq` alone
not_sortable : fault (block None (funcs.Cmp ops.Ge (of.Pred (codes "done")) (codes "true" ∷ [])) [] [] ∷ []) ≡ Some (faults.NotIndexed (codes "done") (codes "ge"))
not_sortable = refl

equal_by_truth : fault (block None (funcs.Cmp ops.Eq (of.Pred (codes "done")) (codes "true" ∷ [])) [] [] ∷ []) ≡ None
equal_by_truth = refl

-- `count` stands before `~`
not_counted : fault (block None (funcs.Cmp ops.Eq (of.Count (backward (codes "friend"))) (codes "3" ∷ [])) [] [] ∷ []) ≡ Some (faults.NotIndexed (codes "friend") (codes "count"))
not_counted = refl

not_reversible : fault (block None at_one [] (count_field None (backward (codes "friend"))) ∷ []) ≡ Some (faults.NotIndexed (codes "friend") (codes "~"))
not_reversible = refl

no_number : fault (block None at_one [] (count_field (Some x) (forward (codes "friend"))) ∷ block None (funcs.Cmp ops.Ge (of.Val x) (codes "many" ∷ [])) [] [] ∷ []) ≡ Some (faults.BadLiteral x)
no_number = refl

-- a sum over a variable without a kind
no_sum : fault (block None at_one [] (edge_field (Some x) (forward (codes "nick"))) ∷ block None (at_var x) [] (aggregated aggregates.Sum x ∷ []) ∷ []) ≡ Some (faults.BadLiteral x)
no_sum = refl

last_beside_order : fault (block None at_one (args.First (negsuc 0) ∷ args.Asc (orders.Pred (codes "name")) ∷ []) [] ∷ []) ≡ Some (faults.BadPage (codes "first"))
last_beside_order = refl

offset_twice : fault (block None at_one (args.Offset (pos 1) ∷ args.First (pos 1) ∷ args.Offset (pos 2) ∷ []) [] ∷ []) ≡ Some (faults.BadPage (codes "offset"))
offset_twice = refl

too_deep : fault (block None at_one [] (recursion (options.Depth (pos 33) ∷ []) ∷ []) ∷ []) ≡ Some (faults.BadDepth (pos 33))
too_deep = refl

no_depth : fault (block None at_one [] (recursion [] ∷ []) ∷ []) ≡ Some (faults.BadDepth (pos 0))
no_depth = refl

-- the first block whose variables are known, again and again
in_order : run_order (dependencies (map names_of_block (block None (at_var x) [] [] ∷ block (Some y) (at_var x) [] [] ∷ block (Some x) at_one [] [] ∷ []))) ≡ 2 ∷ 0 ∷ 1 ∷ []
in_order = refl
