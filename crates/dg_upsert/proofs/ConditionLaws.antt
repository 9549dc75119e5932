-- What a condition is, part by part.
use Rattle.std.proofs.Common.{◌≡◌, ℕ, ℤ, Bool, List, [], ◌∷◌, map, length, refl, sym, ap, ◌∙◌}
use Rattle.std.specs.Prelude.{◌&&◌, ◌||◌}
use Rattle.std.specs.List.{list_any, list_all}
use Rattle.dg_parse.specs.declared.query.CmpOp.{CmpOp}
use Rattle.dg_parse.specs.declared.upsert.UCond.{UCond}
use Rattle.dg_parse.specs.declared.upsert.UPart.TheVariants as parts
use Rattle.dg_parse.specs.declared.upsert.UPart.TheVariants.{rolls-Or, rolls-And, rolls-Len}
use Rattle.dg_parse.specs.declared.upsert.UPart.TheOpen.{UPart-F}
use Rattle.dg_parse.specs.declared.upsert.UPart.TheFolds.{fold-roll-UPart, fold_out-UCond}
use Rattle.dg_check.specs.declared.vars.Variable.{Variable}
use Rattle.dg_funcs.specs.Truth.{negated}
use Rattle.dg_upsert.specs.Conditions.{nodes_named, count_stands, step_of_part, step_of_condition, holds, part_holds}

any_mapped : {X : Type 0} (f : X → Bool) (xs : List X) → list_any (λ b. b) (map f xs) ≡ list_any f xs
any_mapped f [] = refl
any_mapped f (x ∷ xs) = ap (λ b. f x || b) (any_mapped f xs)

all_mapped : {X : Type 0} (f : X → Bool) (xs : List X) → list_all (λ b. b) (map f xs) ≡ list_all f xs
all_mapped f [] = refl
all_mapped f (x ∷ xs) = ap (λ b. f x && b) (all_mapped f xs)

module _ (names : List (List ℕ)) (vars : List Variable) where
  pub holds_is : (condition : UCond) → negated condition.nots (part_holds names vars condition.part) ≡ holds names vars condition
  holds_is condition = sym (fold_out-UCond Bool Bool (step_of_part names vars) step_of_condition condition)

  pub part_or : (cs : List UCond) → part_holds names vars (parts.Or cs) ≡ list_any (holds names vars) cs
  part_or cs = ap (part_holds names vars) (sym (rolls-Or cs)) ∙ (fold-roll-UPart Bool Bool (step_of_part names vars) step_of_condition (UPart-F.Or cs) ∙ any_mapped (holds names vars) cs)

  pub part_and : (cs : List UCond) → part_holds names vars (parts.And cs) ≡ list_all (holds names vars) cs
  part_and cs = ap (part_holds names vars) (sym (rolls-And cs)) ∙ (fold-roll-UPart Bool Bool (step_of_part names vars) step_of_condition (UPart-F.And cs) ∙ all_mapped (holds names vars) cs)

  pub part_len : (op : CmpOp) (x : List ℕ) (n : ℤ) → part_holds names vars (parts.Len op x n) ≡ count_stands op (length (nodes_named names vars x)) n
  part_len op x n = ap (part_holds names vars) (sym (rolls-Len op x n)) ∙ fold-roll-UPart Bool Bool (step_of_part names vars) step_of_condition (UPart-F.Len op x n)
