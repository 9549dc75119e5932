-- Makers of patterns, of which the first is used.
use Rattle.std.proofs.Common.{◌≡◌, ◌<◌, arith, refl, List, [], ◌∷◌, length, get_or}
use Rattle.std.specs.Prelude.{slice_set}
use Rattle.dg_check.specs.declared.patterns.Refusal.{Refusal}
use Rattle.dg_check.specs.Patterns.{IsFrontOf}
use Rattle.dg_check.proofs.PlanLaws.{front_itself}
use Rattle.dg_node.specs.Makers.{EachGrew, first_refused}

pub each_itself : {P : Type 0} (refused : P → List Refusal) (makers : List P) → EachGrew refused makers makers
each_itself refused [] = tt
each_itself refused (maker ∷ makers) = (front_itself (refused maker), each_itself refused makers)

pub first_grew : {P : Type 0} (refused : P → List Refusal) (makers : List P) (after d : P) → 0 < length makers → IsFrontOf (refused (get_or makers 0 d)) (refused after) → EachGrew refused makers (slice_set makers 0 after)
first_grew refused [] after d lt f = absurd (omega arith)
first_grew refused (maker ∷ makers) after d lt f = (f, each_itself refused makers)

pub first_is : {P : Type 0} (refused : P → List Refusal) (makers : List P) (after : P) → 0 < length makers → first_refused refused (slice_set makers 0 after) ≡ refused after
first_is refused [] after lt = absurd (omega arith)
first_is refused (maker ∷ makers) after lt = refl
