-- Makers of patterns before a run and after it.
use Rattle.std.specs.Prelude.{List, [], ◌∷◌, ⊤}
use Rattle.dg_check.specs.declared.patterns.Refusal.{Refusal}
use Rattle.dg_check.specs.Patterns.{IsFrontOf}

-- the makers are as many as before, and each one's list of refused patterns only grew (this project's own)
abbrev pub EachGrew : {P : Type 0} → (P → List Refusal) → List P → List P → Type 0
EachGrew refused [] [] = ⊤
EachGrew refused [] (maker ∷ more) = ⊥
EachGrew refused (maker ∷ makers) [] = ⊥
EachGrew refused (maker ∷ makers) (after ∷ more) = IsFrontOf (refused maker) (refused after) × EachGrew refused makers more

-- what the first maker refused
abbrev pub first_refused : {P : Type 0} → (P → List Refusal) → List P → List Refusal
first_refused refused [] = []
first_refused refused (maker ∷ more) = refused maker
