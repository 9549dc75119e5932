-- What holds of the statements for which those of an upsert block stand.
use Rattle.std.specs.Prelude.{◌≡◌, ℕ, List, flat_map}
use Rattle.std.specs.List.{AllByRecursion}
use Rattle.dg_nquad.specs.declared.mutation.Statement.{Statement}
use Rattle.dg_nquad.specs.Plain.{HasNoVariable}
use Rattle.dg_parse.specs.declared.upsert.UMut.{UMut}
use Rattle.dg_check.specs.declared.vars.Variable.{Variable}
use Rattle.dg_upsert.specs.Meaning.{statements_meant, mutations_mean}

-- whatever variables stand for, none stands in the statements that are given
abbrev pub HaveNoVariable : Type 0
HaveNoVariable = (names : List (List ℕ)) (vars : List Variable) (mutations : List UMut) → AllByRecursion HasNoVariable (mutations_mean names vars mutations)

-- statements in which no variable stands are given as they are
abbrev pub StandAsTheyAre : Type 0
StandAsTheyAre = (names : List (List ℕ)) (vars : List Variable) (statements : List Statement) → AllByRecursion HasNoVariable statements → flat_map (statements_meant names vars) statements ≡ statements
