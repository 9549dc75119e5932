-- What a plan keeps of a query, by the tree of its text.
use Rattle.std.specs.Prelude.{◌≡◌, ℕ, List, [], ◌∷◌, ⊤, false, true, Option, Some, None, flat_map, unwrap_or}
use Rattle.std.specs.List.{list_all}
use Rattle.dg_schema.specs.declared.definition.PredDef.{PredDef}
use Rattle.dg_parse.specs.declared.query.AggOp.{AggOp}
use Rattle.dg_parse.specs.declared.query.QArg.{QArg}
use Rattle.dg_parse.specs.declared.query.QBlock.{QBlock}
use Rattle.dg_parse.specs.declared.query.QDir.{QDir}
use Rattle.dg_parse.specs.declared.query.QDir.TheVariants as dirs
use Rattle.dg_parse.specs.declared.query.QEdge.{QEdge}
use Rattle.dg_parse.specs.declared.query.QField.{QField}
use Rattle.dg_parse.specs.declared.query.QFilter.{QFilter}
use Rattle.dg_parse.specs.declared.query.QFunc.{QFunc}
use Rattle.dg_parse.specs.declared.query.QItem.{QItem}
use Rattle.dg_parse.specs.declared.query.QItem.TheVariants as items
use Rattle.dg_parse.specs.declared.query.QPart.{QPart}
use Rattle.dg_parse.specs.declared.query.QPart.TheVariants as said
use Rattle.dg_check.specs.declared.parts.Field.{Field}
use Rattle.dg_check.specs.declared.parts.Item.{Item}
use Rattle.dg_check.specs.declared.parts.Item.TheVariants as shown
use Rattle.dg_check.specs.declared.parts.Filter.{Filter}
use Rattle.dg_check.specs.declared.parts.Func.{Func}
use Rattle.dg_check.specs.declared.parts.Func.TheVariants as made
use Rattle.dg_check.specs.declared.parts.OrderKey.{OrderKey}
use Rattle.dg_check.specs.declared.parts.Part.{Part}
use Rattle.dg_check.specs.declared.parts.Part.TheVariants as pieces
use Rattle.dg_check.specs.declared.parts.Parts.{Parts}
use Rattle.dg_check.specs.declared.plan.Read.{Read}
use Rattle.dg_check.specs.declared.plan.Read.TheVariants as reads
use Rattle.dg_check.specs.Names.{is_name_in}
use Rattle.dg_check.specs.Places.{places_of_part, places_of_filter, places_of_dir, walked_item, places_of_field, place_of_root, places_of_block}
use Rattle.dg_check.specs.Variables.{Definition, names_for, Use, of_values, uses_of_func, uses_of_arg}
use Rattle.dg_check.specs.Plans.{Asked, of_func, of_args, of_name, asked_in, place_of, keys_of, IsReadFunc, IsReadOf}

-- ---- variables

-- each variable that is used is defined
abbrev pub AreKnown : List Definition → List Use → Type 0
AreKnown ds uses = list_all (λ u. is_name_in (names_for false ds) u.name) uses ≡ true

-- the variables of what is read
abbrev pub uses_asked : Asked → List Use
uses_asked (of_func q) = uses_of_func q
uses_asked (of_args list) = flat_map uses_of_arg list
uses_asked (of_name x) = of_values x ∷ []

-- ---- by the tree of the text

-- a function as it is evaluated is that of the text, and its variables are defined
abbrev pub IsFuncOf : List PredDef → List Definition → QFunc → Func → Type 0
IsFuncOf schema ds q f = IsReadFunc schema ds q f × AreKnown ds (uses_of_func q)

-- order keys are those among arguments, and their variables are defined
abbrev pub AreKeysOf : List Definition → List QArg → List OrderKey → Type 0
AreKeysOf ds list keys = (keys ≡ keys_of ds list) × AreKnown ds (flat_map uses_of_arg list)

-- the place is that of a variable which is defined
abbrev pub IsPlaceOf : List Definition → List ℕ → ℕ → Type 0
IsPlaceOf ds x place = (place ≡ place_of ds x) × AreKnown ds (of_values x ∷ [])

-- the same of a variable that may be there
abbrev pub IsVarOf : List Definition → Option (List ℕ) → Option ℕ → Type 0
IsVarOf ds None None = ⊤
IsVarOf ds None (Some place) = ⊥
IsVarOf ds (Some x) None = ⊥
IsVarOf ds (Some x) (Some place) = IsPlaceOf ds x place

mutual
  -- a filter: as many `not` before what they stand before
  pub data IsFilterOf (schema : List PredDef) (ds : List Definition) : QFilter → Filter → Type 0 where
    negated : (q : QFilter) (f : Filter) → f.nots ≡ q.nots → IsPartOf schema ds q.part f.part → IsFilterOf schema ds q f

  -- what `not` stands before
  pub data IsPartOf (schema : List PredDef) (ds : List Definition) : QPart → Part → Type 0 where
    any : (qs : List QFilter) (fs : List Filter) → AreFiltersOf schema ds qs fs → IsPartOf schema ds (said.Or qs) (pieces.Or fs)
    each : (qs : List QFilter) (fs : List Filter) → AreFiltersOf schema ds qs fs → IsPartOf schema ds (said.And qs) (pieces.And fs)
    one : (q : QFunc) (f : Func) → IsFuncOf schema ds q f → IsPartOf schema ds (said.Func q) (pieces.Func f)

  -- filters, in their order
  pub data AreFiltersOf (schema : List PredDef) (ds : List Definition) : List QFilter → List Filter → Type 0 where
    no_filter : AreFiltersOf schema ds [] []
    more_filters : (q : QFilter) (f : Filter) (qs : List QFilter) (fs : List Filter) → IsFilterOf schema ds q f → AreFiltersOf schema ds qs fs → AreFiltersOf schema ds (q ∷ qs) (f ∷ fs)

-- the filter of a directive, if it is one
abbrev pub filters_at : QDir → List QFilter
filters_at (dirs.Filter f) = f ∷ []
filters_at dirs.Cascade = []
filters_at dirs.Normalize = []
filters_at (dirs.Recurse options) = []

-- the filters of directives, in their order
abbrev pub filters_in : List QDir → List QFilter
filters_in list = flat_map filters_at list

-- the fields in braces; none where there are no braces
abbrev pub in_braces : Option (List QField) → List QField
in_braces braces = unwrap_or braces []

mutual
  -- what is kept of what a field shows
  pub data IsItemOf (schema : List PredDef) (ds : List Definition) : QItem → Item → Type 0 where
    uid : IsItemOf schema ds items.Uid shown.Plain
    count_uid : IsItemOf schema ds items.CountUid shown.Plain
    count : (e : QEdge) → IsItemOf schema ds (items.Count e) shown.Plain
    val : (x : List ℕ) (place : ℕ) → IsPlaceOf ds x place → IsItemOf schema ds (items.Val x) (shown.Val place)
    agg : (op : AggOp) (x : List ℕ) (place : ℕ) → IsPlaceOf ds x place → IsItemOf schema ds (items.Agg op x) (shown.Val place)
    edge : (e : QEdge) (args : List QArg) (list : List QDir) (braces : Option (List QField)) (orders : List OrderKey) (filters : List Filter) (inner : List Field)
        → AreKeysOf ds args orders → AreFiltersOf schema ds (filters_in list) filters → AreFieldsOf schema ds (in_braces braces) inner → IsItemOf schema ds (items.Edge e args list braces) (shown.Edge orders filters inner)

  -- what is kept of fields, one for each: the variables that they define, and what they show
  pub data AreFieldsOf (schema : List PredDef) (ds : List Definition) : List QField → List Field → Type 0 where
    no_field : AreFieldsOf schema ds [] []
    more_fields : (q : QField) (f : Field) (qs : List QField) (fs : List Field) → IsVarOf ds q.var f.var → IsItemOf schema ds q.item f.item → AreFieldsOf schema ds qs fs → AreFieldsOf schema ds (q ∷ qs) (f ∷ fs)

-- what is kept of a field
abbrev pub IsFieldOf : List PredDef → List Definition → QField → Field → Type 0
IsFieldOf schema ds q f = IsVarOf ds q.var f.var × IsItemOf schema ds q.item f.item

-- the function of a root, where there is one
abbrev pub IsRootOf : List PredDef → List Definition → Option QFunc → Option Func → Type 0
IsRootOf schema ds None None = ⊤
IsRootOf schema ds None (Some f) = ⊥
IsRootOf schema ds (Some q) None = ⊥
IsRootOf schema ds (Some q) (Some f) = IsFuncOf schema ds q f

-- what is kept of a block
pub record IsBlockOf (schema : List PredDef) (ds : List Definition) (block : QBlock) (kept : Parts) : Type 0 where
  pub var : IsVarOf ds block.var kept.var
  pub root : IsRootOf schema ds block.func kept.root
  pub orders : AreKeysOf ds block.args kept.orders
  pub filters : AreFiltersOf schema ds (filters_in block.dirs) kept.filters
  pub fields : AreFieldsOf schema ds block.fields kept.fields

-- what is kept of blocks, one for each
abbrev pub AreBlocksOf : List PredDef → List Definition → List QBlock → List Parts → Type 0
AreBlocksOf schema ds [] [] = ⊤
AreBlocksOf schema ds [] (kept ∷ more) = ⊥
AreBlocksOf schema ds (block ∷ blocks) [] = ⊥
AreBlocksOf schema ds (block ∷ blocks) (kept ∷ more) = IsBlockOf schema ds block kept × AreBlocksOf schema ds blocks more

-- ---- taken one after another

-- what was read begins with what is read of these, of variables that are defined, and then this is left
abbrev pub Takes : List PredDef → List Definition → List Asked → List Read → List Read → Type 0
Takes schema ds [] before after = before ≡ after
Takes schema ds (asked ∷ rest) [] after = ⊥
Takes schema ds (asked ∷ rest) (read ∷ more) after = IsReadOf schema ds asked read × AreKnown ds (uses_asked asked) × Takes schema ds rest more after

-- what was read as a function; one that names no node where it is none
abbrev pub func_in : Read → Func
func_in (reads.Func f) = f
func_in (reads.Orders keys) = made.Uid []
func_in (reads.Val place) = made.Uid []

-- what was read as order keys; none where it isn't
abbrev pub orders_in : Read → List OrderKey
orders_in (reads.Func f) = []
orders_in (reads.Orders keys) = keys
orders_in (reads.Val place) = []

-- what was read as the place of a variable; the first place where it is none
abbrev pub val_in : Read → ℕ
val_in (reads.Func f) = 0
val_in (reads.Orders keys) = 0
val_in (reads.Val place) = place

-- the first that was read, as a function
abbrev pub func_first : List Read → Func
func_first [] = made.Uid []
func_first (read ∷ more) = func_in read

-- the first that was read, as order keys
abbrev pub orders_first : List Read → List OrderKey
orders_first [] = []
orders_first (read ∷ more) = orders_in read

-- the first that was read, as the place of a variable
abbrev pub val_first : List Read → ℕ
val_first [] = 0
val_first (read ∷ more) = val_in read

-- what is read of a variable that may be defined
abbrev pub asked_of_var : Option (List ℕ) → List Asked
asked_of_var None = []
asked_of_var (Some x) = of_name x ∷ []

-- what is read of a root, where there is one
abbrev pub asked_of_root : Option QFunc → List Asked
asked_of_root func = asked_in (place_of_root func)

-- what is read of a filter
abbrev pub asked_of_filter : QFilter → List Asked
asked_of_filter filter = asked_in (places_of_filter filter)

-- what is read of what `not` stands before
abbrev pub asked_of_part : QPart → List Asked
asked_of_part part = asked_in (places_of_part part)

-- what is read of a directive
abbrev pub asked_of_dir : QDir → List Asked
asked_of_dir dir = asked_in (places_of_dir dir)

-- what is read of a field's item
abbrev pub asked_of_item : QItem → List Asked
asked_of_item item = asked_in (walked_item item).places

-- what is read of a field
abbrev pub asked_of_field : QField → List Asked
asked_of_field field = asked_in (places_of_field field)

-- what is read of a block
abbrev pub asked_of_block : QBlock → List Asked
asked_of_block block = asked_in (places_of_block block)
