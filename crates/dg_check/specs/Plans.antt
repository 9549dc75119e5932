-- What is read of a query, place by place: functions with literals as values and patterns as they are built, order keys, and
-- variables by their places.
use Rattle.std.specs.Prelude.{◌≡◌, ℕ, List, [], ◌∷◌, ⊤, Bool, false, if◌then◌else◌, Option, Some, None, map, flat_map, filter_map}
use Rattle.std.specs.List.{list_all, position_or_len}
use Rattle.dg_values.specs.declared.kind.Kind.{Kind}
use Rattle.dg_values.specs.declared.value.Value.{Value}
use Rattle.dg_values.specs.Order.{same_text}
use Rattle.dg_values.specs.Scanning.{value_of_text}
use Rattle.dg_schema.specs.declared.definition.PredDef.{PredDef}
use Rattle.dg_parse.specs.declared.query.QArg.{QArg}
use Rattle.dg_parse.specs.declared.query.QArg.TheVariants as args
use Rattle.dg_parse.specs.declared.query.QFunc.{QFunc}
use Rattle.dg_parse.specs.declared.query.QFunc.TheVariants as funcs
use Rattle.dg_parse.specs.declared.query.QOf.{QOf}
use Rattle.dg_parse.specs.declared.query.QOf.TheVariants as of
use Rattle.dg_parse.specs.declared.query.QOrder.{QOrder}
use Rattle.dg_parse.specs.declared.query.QOrder.TheVariants as orders
use Rattle.dg_parse.specs.declared.query.UidArg.{UidArg}
use Rattle.dg_parse.specs.declared.query.UidArg.TheVariants as named
use Rattle.dg_check.specs.declared.parts.By.{By}
use Rattle.dg_check.specs.declared.parts.By.TheVariants as by
use Rattle.dg_check.specs.declared.parts.Func.{Func}
use Rattle.dg_check.specs.declared.parts.Func.TheVariants as made
use Rattle.dg_check.specs.declared.parts.Node.{Node}
use Rattle.dg_check.specs.declared.parts.Node.TheVariants as nodes
use Rattle.dg_check.specs.declared.parts.Of.{Of}
use Rattle.dg_check.specs.declared.parts.Of.TheVariants as part
use Rattle.dg_check.specs.declared.parts.OrderKey.{OrderKey}
use Rattle.dg_check.specs.declared.parts.OrderKey.TheVariants as keys
use Rattle.dg_check.specs.declared.plan.Read.{Read}
use Rattle.dg_check.specs.declared.plan.Read.TheVariants as reads
use Rattle.dg_check.specs.Places.{Place, defined, root, tested, arguments, recursion, edge, shown, aggregated}
use Rattle.dg_check.specs.Variables.{Definition, names_for}
use Rattle.dg_check.specs.Faults.{kind_of_part, reads_as}
use Rattle.dg_check.specs.Patterns.{IsBuiltFrom}

-- what is read: a function, the arguments of a list, or a variable that is defined, shown or aggregated
pub data Asked : Type 0 where
  of_func : QFunc → Asked
  of_args : List QArg → Asked
  of_name : List ℕ → Asked

-- what is read at a place
abbrev pub asked_at : Place → List Asked
asked_at (defined x source) = of_name x ∷ []
asked_at (root f) = of_func f ∷ []
asked_at (tested f) = of_func f ∷ []
asked_at (arguments list) = of_args list ∷ []
asked_at (recursion options) = []
asked_at (edge e) = []
asked_at (shown x) = of_name x ∷ []
asked_at (aggregated op x) = of_name x ∷ []

-- what is read at places, in the order of the text
abbrev pub asked_in : List Place → List Asked
asked_in places = flat_map asked_at places

-- ---- literals

-- the value that a literal reads as; where there is no kind nothing is compared with it
abbrev pub literal_read : Option Kind → List ℕ → Option Value
literal_read None literal = None
literal_read (Some kind) literal = value_of_text kind literal

-- the values that literals read as, in their order
abbrev pub literals_read : Option Kind → List (List ℕ) → List Value
literals_read kind literals = filter_map (literal_read kind) literals

-- the same where each of them reads
abbrev pub all_read : Option Kind → List (List ℕ) → Option (List Value)
all_read kind literals = if list_all (reads_as kind) literals then Some (literals_read kind literals) else None

-- the values that literals read as beside what is compared with them
abbrev pub values_beside : List PredDef → List Definition → QOf → List (List ℕ) → List Value
values_beside schema ds compared literals = literals_read (kind_of_part schema ds compared) literals

-- ---- names

-- the place of a variable among those that are defined
abbrev pub place_of : List Definition → List ℕ → ℕ
place_of ds x = position_or_len (same_text x) (names_for false ds)

-- a node, or a variable by its place
abbrev pub node_of : List Definition → UidArg → Node
node_of ds (named.Uid n) = nodes.Uid n
node_of ds (named.Var x) = nodes.Var (place_of ds x)

-- what is compared, a variable by its place
abbrev pub of_part : List Definition → QOf → Of
of_part ds (of.Pred p) = part.Pred p
of_part ds (of.Count e) = part.Count e
of_part ds (of.Val x) = part.Val (place_of ds x)

-- what a list is ordered by, a variable by its place
abbrev pub by_of : List Definition → QOrder → By
by_of ds (orders.Pred p) = by.Pred p
by_of ds (orders.Val x) = by.Val (place_of ds x)

-- the order key that an argument is, if it is one
abbrev pub key_of : List Definition → QArg → Option OrderKey
key_of ds (args.First n) = None
key_of ds (args.Offset n) = None
key_of ds (args.After n) = None
key_of ds (args.Asc order) = Some (keys.Asc (by_of ds order))
key_of ds (args.Desc order) = Some (keys.Desc (by_of ds order))

-- the order keys among arguments, in their order
abbrev pub keys_of : List Definition → List QArg → List OrderKey
keys_of ds list = filter_map (key_of ds) list

-- ---- what is read

-- a pattern is built from a text and its flag
abbrev pub IsPatternOf : List ℕ → List ℕ → Bool → Func → Type 0
IsPatternOf pred text fold (made.Regexp p regex) = (p ≡ pred) × IsBuiltFrom text fold regex.value
IsPatternOf pred text fold f = ⊥

-- a function with its literals as values, its pattern as it is built and its variables as places
abbrev pub IsReadFunc : List PredDef → List Definition → QFunc → Func → Type 0
IsReadFunc schema ds (funcs.Uid uids) f = f ≡ made.Uid (map (node_of ds) uids)
IsReadFunc schema ds (funcs.Cmp op compared lits) f = f ≡ made.Cmp op (of_part ds compared) (kind_of_part schema ds compared) (values_beside schema ds compared lits)
IsReadFunc schema ds (funcs.Between compared low high) f = f ≡ made.Between (of_part ds compared) (kind_of_part schema ds compared) (values_beside schema ds compared (low ∷ high ∷ []))
IsReadFunc schema ds (funcs.Has e) f = f ≡ made.Has e
IsReadFunc schema ds (funcs.Terms all p text) f = f ≡ made.Terms all p text
IsReadFunc schema ds (funcs.Regexp p pattern fold) f = IsPatternOf p pattern fold f
IsReadFunc schema ds (funcs.UidIn e uids) f = f ≡ made.UidIn e (map (node_of ds) uids)

-- the same of what was read, which has to be a function
abbrev pub IsReadAs : List PredDef → List Definition → QFunc → Read → Type 0
IsReadAs schema ds q (reads.Func f) = IsReadFunc schema ds q f
IsReadAs schema ds q read = ⊥

-- what is read of it
abbrev pub IsReadOf : List PredDef → List Definition → Asked → Read → Type 0
IsReadOf schema ds (of_func q) read = IsReadAs schema ds q read
IsReadOf schema ds (of_args list) read = read ≡ reads.Orders (keys_of ds list)
IsReadOf schema ds (of_name x) read = read ≡ reads.Val (place_of ds x)

-- what is read of each, in their order
abbrev pub AreReadOf : List PredDef → List Definition → List Asked → List Read → Type 0
AreReadOf schema ds [] [] = ⊤
AreReadOf schema ds [] (read ∷ more) = ⊥
AreReadOf schema ds (one ∷ rest) [] = ⊥
AreReadOf schema ds (one ∷ rest) (read ∷ more) = IsReadOf schema ds one read × AreReadOf schema ds rest more
