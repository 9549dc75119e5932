-- A list whose members stand one after the other in what is left.
use Rattle.std.specs.Prelude.{◌≡◌, ◌<◌, Bool, true, false, List, [], ◌∷◌, ◌++◌, length, Ok}
use Rattle.dg_text.specs.Reading.{Reader}

-- The first member of what is left: its own tokens, of which there are some, and which the part reads behind the members
-- before it; and what holds of the rest.
pub record HasNext {E S : Type 0} (begins : List E → Bool) (part : List S → Reader (List E) (List S)) (before : List S) (member : S) (left : List E) (More : List E → Type 0) : Type 0 where
  pub tokens : List E
  pub rest : List E
  pub some : 0 < length tokens
  pub is : left ≡ tokens ++ rest
  pub begun : begins left ≡ true
  pub read : part before left ≡ Ok (before ++ member ∷ [], rest)
  pub more : More rest

-- the members stand one after the other in what is left, behind those before them, up to an end where none begins
abbrev pub AreListed : {E S : Type 0} → (List E → Bool) → (List S → Reader (List E) (List S)) → List S → List S → List E → List E → Type 0
AreListed begins part before [] end left = (left ≡ end) × (begins end ≡ false)
AreListed begins part before (member ∷ more) end left = HasNext begins part before member left (AreListed begins part (before ++ member ∷ []) more end)
