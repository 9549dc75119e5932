-- Which variables the mutations of an upsert block name, and when the condition of one holds.
use Rattle.std.specs.Prelude.{ℕ, ℤ, pos, List, Bool, true, Option, Some, None, length}
use Rattle.std.specs.List.{list_any, list_all, position_or_len}
use Rattle.std.specs.Ordering.{int_cmp}
use Rattle.dg_values.specs.declared.value.Value.{Value}
use Rattle.dg_values.specs.Order.{same_text}
use Rattle.dg_parse.specs.declared.query.CmpOp.{CmpOp}
use Rattle.dg_parse.specs.declared.upsert.UCond.{UCond}
use Rattle.dg_parse.specs.declared.upsert.UPart.{UPart}
use Rattle.dg_parse.specs.declared.upsert.UPart.TheFolds.{fold-UCond, fold-UPart}
use Rattle.dg_parse.specs.declared.upsert.UPart.TheOpen.{UCond-F, UPart-F}
use Rattle.dg_check.specs.declared.vars.Variable.{Variable}
use Rattle.dg_check.specs.Vars.{nodes_of, value_at}
use Rattle.dg_funcs.specs.Truth.{stands, negated}

-- the nodes of the variable of this name
abbrev pub nodes_named : List (List ℕ) → List Variable → List ℕ → List ℕ
nodes_named names vars x = nodes_of vars (position_or_len (same_text x) names)

-- the value of the variable of this name at a node
abbrev pub value_named : List (List ℕ) → List Variable → List ℕ → ℕ → Option Value
value_named names vars x node = value_at vars (position_or_len (same_text x) names) node

-- a number of nodes stands so to a whole number
abbrev pub count_stands : CmpOp → ℕ → ℤ → Bool
count_stands op count n = stands op (int_cmp (pos count) n)

-- `or` holds where a part does, `and` where all do, `len` by the number of nodes of its variable
abbrev pub step_of_part : List (List ℕ) → List Variable → UPart-F Bool Bool → Bool
step_of_part names vars (UPart-F.Or parts) = list_any (λ b. b) parts
step_of_part names vars (UPart-F.And parts) = list_all (λ b. b) parts
step_of_part names vars (UPart-F.Len op x n) = count_stands op (length (nodes_named names vars x)) n

-- the same of a part behind its number of `not`
abbrev pub step_of_condition : UCond-F Bool Bool → Bool
step_of_condition condition = negated condition.nots condition.part

-- a condition holds of variables
abbrev pub holds : List (List ℕ) → List Variable → UCond → Bool
holds names vars = fold-UCond Bool Bool (step_of_part names vars) step_of_condition

-- what `not` stands before holds of them
abbrev pub part_holds : List (List ℕ) → List Variable → UPart → Bool
part_holds names vars = fold-UPart Bool Bool (step_of_part names vars) step_of_condition

-- a mutation is taken: it has no condition, or one that holds
abbrev pub is_taken : List (List ℕ) → List Variable → Option UCond → Bool
is_taken names vars None = true
is_taken names vars (Some condition) = holds names vars condition
