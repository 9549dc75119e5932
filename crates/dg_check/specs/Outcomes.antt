-- What `check` may answer, given the list of its maker of patterns after the call.
use Rattle.std.specs.Prelude.{◌≡◌, ◌⊎◌, ℕ, ◌<◌, length, List, [], ◌∷◌, ◌++◌, Bool, true, false, Option, Some, None, option_to_list, slice_get, Result, Ok, Err}
use Rattle.std.specs.Option.{option_or}
use Rattle.dg_values.specs.declared.value.Value.{Value}
use Rattle.dg_schema.specs.declared.definition.PredDef.{PredDef}
use Rattle.dg_parse.specs.declared.query.CmpOp.{CmpOp}
use Rattle.dg_parse.specs.declared.query.QFunc.TheVariants as funcs
use Rattle.dg_parse.specs.declared.query.QOf.{QOf}
use Rattle.dg_parse.specs.declared.query.Query.{Query}
use Rattle.dg_parse.specs.declared.upsert.Upsert.{Upsert}
use Rattle.dg_check.specs.declared.blocks.BlockNames.{BlockNames}
use Rattle.dg_check.specs.declared.fault.CheckFault.{CheckFault}
use Rattle.dg_check.specs.declared.fault.CheckFault.TheVariants as faults
use Rattle.dg_check.specs.declared.patterns.Refusal.{Refusal}
use Rattle.dg_check.specs.declared.parts.Func.{Func}
use Rattle.dg_check.specs.declared.parts.Func.TheVariants as made
use Rattle.dg_check.specs.declared.plan.Plan.{Plan}
use Rattle.dg_check.specs.declared.plan.Read.{Read}
use Rattle.dg_check.specs.declared.plan.Read.TheVariants as reads
use Rattle.dg_check.specs.Patterns.{is_refused}
use Rattle.dg_check.specs.Places.{Place, places_of_query}
use Rattle.dg_check.specs.Names.{is_name_in}
use Rattle.dg_check.specs.Variables.{Definition, definitions_in, names_for, Use, uses_in, uses_of_mutations}
use Rattle.dg_check.specs.Blocks.{names_of_blocks}
use Rattle.dg_check.specs.Cycles.{is_place_in}
use Rattle.dg_check.specs.RunOrder.{dependencies, are_ready}
use Rattle.dg_check.specs.Faults.{first_of, first_again, kind_of_part, name_of_part, fault_of_variables, cycle, not_indexed_at, bad_literal_at, fault_of, fault_of_upsert}
use Rattle.dg_check.specs.Plans.{Asked, of_func, asked_at, asked_in, all_read, of_part, place_of, IsPatternOf, AreReadOf}
use Rattle.dg_check.specs.Parts.{AreBlocksOf}

-- the fault of the checks before that of literals
abbrev pub fault_before : List PredDef → List BlockNames → List Place → List Use → Option CheckFault
fault_before schema blocks places uses =
    option_or (fault_of_variables (definitions_in schema places) uses) (option_or (cycle blocks) (first_of (not_indexed_at schema) places))

-- the fault is that of a pattern on the list, for which the one function of a place looks
pub record IsRefused (list : List Refusal) (asked : List Asked) (fault : CheckFault) : Type 0 where
  pub pred : List ℕ
  pub pattern : List ℕ
  pub fold : Bool
  pub sought : asked ≡ of_func (funcs.Regexp pred pattern fold) ∷ []
  pub listed : is_refused list pattern fold ≡ true
  pub is : fault ≡ faults.BadLiteral pred

-- the fault is that of a pattern on the list, and before it no literal is bad and all is read
pub record IsOfPattern (schema : List PredDef) (definitions : List Definition) (list : List Refusal) (places : List Place) (fault : CheckFault) : Type 0 where
  pub before : List Place
  pub place : Place
  pub after : List Place
  pub stands : places ≡ before ++ place ∷ after
  pub refused : IsRefused list (asked_at place) fault
  pub clean : first_of (bad_literal_at schema definitions) before ≡ None
  pub read : List Read
  pub are_read : AreReadOf schema definitions (asked_in before) read

-- what a function comes to, given the values of its literals; none where one of them doesn't read
abbrev pub func_outcome : List ℕ → (List Value → Func) → Option (List Value) → Result (Option Read) CheckFault
func_outcome name make None = Err (faults.BadLiteral name)
func_outcome name make (Some values) = Ok (Some (reads.Func (make values)))

-- what a comparison comes to
abbrev pub cmp_outcome : List PredDef → List Definition → CmpOp → QOf → List (List ℕ) → Result (Option Read) CheckFault
cmp_outcome schema ds op part literals = func_outcome (name_of_part part) (made.Cmp op (of_part ds part) (kind_of_part schema ds part)) (all_read (kind_of_part schema ds part) literals)

-- what `between` comes to
abbrev pub between_outcome : List PredDef → List Definition → QOf → List ℕ → List ℕ → Result (Option Read) CheckFault
between_outcome schema ds part low high = func_outcome (name_of_part part) (made.Between (of_part ds part) (kind_of_part schema ds part)) (all_read (kind_of_part schema ds part) (low ∷ high ∷ []))

-- what an aggregate comes to: its variable, unless it is a sum that isn't of whole numbers
abbrev pub sum_outcome : List Definition → List ℕ → Option CheckFault → Result (Option Read) CheckFault
sum_outcome ds x None = Ok (Some (reads.Val (place_of ds x)))
sum_outcome ds x (Some fault) = Err fault

-- what was read is a pattern that is built
abbrev pub IsPatternRead : List ℕ → List ℕ → Bool → Read → Type 0
IsPatternRead pred pattern fold (reads.Func f) = IsPatternOf pred pattern fold f
IsPatternRead pred pattern fold read = ⊥

-- what a pattern comes to: it is built, or is on the list
abbrev pub IsPatternOutcome : List Refusal → List ℕ → List ℕ → Bool → Result (Option Read) CheckFault → Type 0
IsPatternOutcome list pred pattern fold (Ok None) = ⊥
IsPatternOutcome list pred pattern fold (Ok (Some read)) = IsPatternRead pred pattern fold read
IsPatternOutcome list pred pattern fold (Err fault) = (is_refused list pattern fold ≡ true) × (fault ≡ faults.BadLiteral pred)

-- what reading a place comes to, at which the check of literals finds `bad` and of which this is asked, one thing or none
abbrev pub IsPlaceOutcome : List PredDef → List Definition → List Refusal → Option CheckFault → List Asked → Result (Option Read) CheckFault → Type 0
IsPlaceOutcome schema definitions list bad asked (Ok found) = (bad ≡ None) × AreReadOf schema definitions asked (option_to_list found)
IsPlaceOutcome schema definitions list bad asked (Err fault) = (bad ≡ Some fault) ⊎ IsRefused list asked fault

-- what checks come to, of which those before literals find `before` and all find `whole`: where that is none, what is read
-- at each place; else its fault, or that of a pattern on the list
abbrev pub IsOutcome : List PredDef → List Definition → List Refusal → List Place → Option CheckFault → Option CheckFault → Result (List Read) CheckFault → Type 0
IsOutcome schema definitions list places before whole (Ok read) = (whole ≡ None) × AreReadOf schema definitions (asked_in places) read
IsOutcome schema definitions list places before whole (Err fault) = (whole ≡ Some fault) ⊎ ((before ≡ None) × IsOfPattern schema definitions list places fault)

-- what was read, unless there is a fault
abbrev pub unless : Option CheckFault → List Read → Result (List Read) CheckFault
unless None read = Ok read
unless (Some fault) read = Err fault

-- what the checks of a query come to whose `whole` fault this is, and which uses these variables
abbrev pub IsOutcomeOf : List PredDef → Query → List Use → Option CheckFault → List Refusal → Result (List Read) CheckFault → Type 0
IsOutcomeOf schema query uses whole list =
    IsOutcome schema (definitions_in schema (places_of_query query)) list (places_of_query query) (fault_before schema (names_of_blocks query.blocks) (places_of_query query) uses) whole

-- of a query
abbrev pub IsQueryOutcome : List PredDef → Query → List Refusal → Result (List Read) CheckFault → Type 0
IsQueryOutcome schema query = IsOutcomeOf schema query (uses_in (places_of_query query)) (fault_of schema query)

-- of an upsert block
abbrev pub IsUpsertOutcome : List PredDef → Upsert → List Refusal → Result (List Read) CheckFault → Type 0
IsUpsertOutcome schema upsert = IsOutcomeOf schema upsert.query (uses_in (places_of_query upsert.query) ++ uses_of_mutations upsert.muts) (fault_of_upsert schema upsert)

-- the plan of a query: the query itself; an order of all its blocks, in which each comes once and behind those that it depends
-- on; the names of its variables, of which each stands once and has a place; and what is kept of each block
pub record IsPlanOf (schema : List PredDef) (query : Query) (plan : Plan) : Type 0 where
  pub same : plan.query ≡ query
  pub ready : are_ready (dependencies (names_of_blocks query.blocks)) [] plan.order ≡ true
  pub all : (at : ℕ) → at < length query.blocks → is_place_in plan.order at ≡ true
  pub vars : plan.vars ≡ names_for false (definitions_in schema (places_of_query query))
  pub once : first_again [] plan.vars ≡ None
  pub named : (x : List ℕ) → is_name_in plan.vars x ≡ true → slice_get plan.vars (place_of (definitions_in schema (places_of_query query)) x) ≡ Some x
  pub parts : AreBlocksOf schema (definitions_in schema (places_of_query query)) query.blocks plan.parts

-- the fault of a query; want of memory is free
abbrev pub IsFaultOf : List PredDef → Query → List Refusal → CheckFault → Type 0
IsFaultOf schema query list fault = (fault ≡ faults.OutOfMemory) ⊎ IsQueryOutcome schema query list (Err fault)

-- of an upsert block
abbrev pub IsFaultOfUpsert : List PredDef → Upsert → List Refusal → CheckFault → Type 0
IsFaultOfUpsert schema upsert list fault = (fault ≡ faults.OutOfMemory) ⊎ IsUpsertOutcome schema upsert list (Err fault)
