-- What a filter is, part by part.
use Rattle.std.proofs.Common.{◌≡◌, ℕ, Bool, true, false, not, List, [], ◌∷◌, map, refl, sym, ap, ◌∙◌}
use Rattle.std.specs.Prelude.{◌&&◌, ◌||◌, ◌%◌, ◌==◌, if◌then◌else◌, filter}
use Rattle.std.specs.List.{list_any, list_all}
use Rattle.std.specs.Ordering.{nat_cmp}
use Rattle.dg_values.specs.Ascending.{has, ascending}
use Rattle.dg_sets.proofs.MadeOrders.{nat_order}
use Rattle.dg_sets.proofs.Sets.{is_itself, has_passed}
use Rattle.dg_graph.proofs.Passing.{ascending_has}
use Rattle.dg_graph.specs.declared.change.Triple.{Triple}
use Rattle.dg_check.specs.declared.parts.Func.{Func}
use Rattle.dg_check.specs.declared.parts.Filter.{Filter}
use Rattle.dg_check.specs.declared.parts.Part.TheVariants as pieces
use Rattle.dg_check.specs.declared.parts.Part.TheVariants.{rolls-Or, rolls-And, rolls-Func}
use Rattle.dg_check.specs.declared.parts.Part.TheOpen.{Part-F}
use Rattle.dg_check.specs.declared.parts.Part.TheFolds.{fold-roll-Part, fold_out-Filter}
use Rattle.dg_check.specs.declared.vars.Variable.{Variable}
use Rattle.dg_funcs.specs.Truth.{holds_at, step_of_part, step_of_filter, negated, passes, part_passes}
use Rattle.dg_funcs.proofs.PassLaws.{and_true}

pub any_mapped : {X : Type 0} (f : X → Bool) (xs : List X) → list_any (λ b. b) (map f xs) ≡ list_any f xs
any_mapped f [] = refl
any_mapped f (x ∷ xs) = ap (λ b. f x || b) (any_mapped f xs)

pub all_mapped : {X : Type 0} (f : X → Bool) (xs : List X) → list_all (λ b. b) (map f xs) ≡ list_all f xs
all_mapped f [] = refl
all_mapped f (x ∷ xs) = ap (λ b. f x && b) (all_mapped f xs)

module _ (graph : List Triple) (vars : List Variable) (n : ℕ) where
  pub passes_is : (f : Filter) → passes graph vars n f ≡ negated f.nots (part_passes graph vars n f.part)
  passes_is f = fold_out-Filter Bool Bool (step_of_part (holds_at graph vars n)) step_of_filter f

  -- behind an odd number of `not`
  pub turned : (f : Filter) → (f.nots % 2 == 1) ≡ true → not (part_passes graph vars n f.part) ≡ passes graph vars n f
  turned f odd =
      let back = sym odd in
      (λ i. if back i then not (part_passes graph vars n f.part) else part_passes graph vars n f.part) ∙ sym (passes_is f)

  -- behind an even number of them
  pub unturned : (f : Filter) → (f.nots % 2 == 1) ≡ false → part_passes graph vars n f.part ≡ passes graph vars n f
  unturned f even =
      let back = sym even in
      (λ i. if back i then not (part_passes graph vars n f.part) else part_passes graph vars n f.part) ∙ sym (passes_is f)

  pub part_or : (parts : List Filter) → part_passes graph vars n (pieces.Or parts) ≡ list_any (passes graph vars n) parts
  part_or parts = ap (part_passes graph vars n) (sym (rolls-Or parts)) ∙ (fold-roll-Part Bool Bool (step_of_part (holds_at graph vars n)) step_of_filter (Part-F.Or parts) ∙ any_mapped (passes graph vars n) parts)

  pub part_and : (parts : List Filter) → part_passes graph vars n (pieces.And parts) ≡ list_all (passes graph vars n) parts
  part_and parts = ap (part_passes graph vars n) (sym (rolls-And parts)) ∙ (fold-roll-Part Bool Bool (step_of_part (holds_at graph vars n)) step_of_filter (Part-F.And parts) ∙ all_mapped (passes graph vars n) parts)

  pub part_func : (f : Func) → part_passes graph vars n (pieces.Func f) ≡ holds_at graph vars n f
  part_func f = ap (part_passes graph vars n) (sym (rolls-Func f)) ∙ fold-roll-Part Bool Bool (step_of_part (holds_at graph vars n)) step_of_filter (Part-F.Func f)

-- a node passes exactly where it is among those of it alone that pass
pub alone : (test : ℕ → Bool) (n : ℕ) → has nat_cmp (filter test (ascending nat_cmp (n ∷ []))) n ≡ test n
alone test n =
    has_passed nat_cmp nat_order test (ascending nat_cmp (n ∷ [])) n
    ∙ ((λ i. test n && ascending_has nat_cmp nat_order (n ∷ []) n i)
    ∙ ((λ i. test n && (is_itself nat_cmp nat_order n i || false)) ∙ and_true (test n)))
