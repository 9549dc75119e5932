-- What readers leave of the tokens that they are given: each leaves the end of them.
use Rattle.std.proofs.Common.{◌≡◌, ℕ, zero, suc, ◌<◌, Bool, true, false, List, [], ◌∷◌, ◌++◌, length, length-append, append_assoc, refl, sym, ap, ◌∙◌, arith}
use Rattle.std.specs.Prelude.{Option, Some, None, Ok, Err, IfOk, if◌then◌else◌}
use Rattle.dg_text.specs.Reading.{Read, Reader, and_then, meant, one_as, skip, turns}

-- what is left ends with the rest, behind these
pub record Ends {E : Type 0} (left rest : List E) : Type 0 where
  pub tokens : List E
  pub is : left ≡ tokens ++ rest

pub all_left : {E : Type 0} (left : List E) → Ends left left
all_left left = record { tokens = []; is = refl }

pub further : {E : Type 0} (left mid rest : List E) → Ends left mid → Ends mid rest → Ends left rest
further left mid rest a b = record { tokens = a.tokens ++ b.tokens; is = a.is ∙ ap (λ l. a.tokens ++ l) b.is ∙ sym (append_assoc a.tokens b.tokens rest) }

-- the rest is shorter
pub record Shorter {E : Type 0} (left rest : List E) : Type 0 where
  pub ends : Ends left rest
  pub some : 0 < length ends.tokens

-- what holds of what is read and of what is left, where something is read
abbrev pub AllOf : {E A : Type 0} → (A → List E → Type 0) → Read (List E) A → Type 0
AllOf P read = IfOk read (λ x. P x.0 x.1)

-- the end is left
abbrev pub Leaves : {E A : Type 0} → List E → Read (List E) A → Type 0
Leaves left read = AllOf (λ _ rest. Ends left rest) read

-- one part, and then what follows it
pub step : {E A B : Type 0} (Q : B → List E → Type 0) (left mid : List E) (read : Read (List E) A) (more : A → Reader (List E) B)
    → Ends left mid → Leaves mid read → ((x : A) (rest : List E) → Ends left rest → AllOf Q (more x rest)) → AllOf Q (and_then read more)
step Q left mid (Ok x) more e l follows = follows x.0 x.1 (further left mid x.1 e l)
step Q left mid (Err place) more e l follows = tt

-- the last part of a chain
pub last : {E A : Type 0} (left mid : List E) (read : Read (List E) A) → Ends left mid → Leaves mid read → Leaves left read
last left mid (Ok x) e l = further left mid x.1 e l
last left mid (Err place) e l = tt

-- one token, and then what follows it
pub past : {E B : Type 0} (Q : B → List E → Type 0) (left mid : List E) (is : E → Bool) (more : Unit {0} → Reader (List E) B)
    → Ends left mid → ((rest : List E) → Shorter left rest → AllOf Q (more tt rest)) → AllOf Q (and_then (skip is mid) more)
past Q left [] is more e follows = tt
past Q left (t ∷ rest) is more e follows = by (is t)
  where
    shorter : Shorter left rest
    shorter = record {
      ends = record { tokens = e.tokens ++ t ∷ []; is = e.is ∙ sym (append_assoc e.tokens (t ∷ []) rest) };
      some = omega (arith, length-append e.tokens (t ∷ []));
    }

    by : (b : Bool) → AllOf Q (and_then (if b then Ok (tt, rest) else Err (length (t ∷ rest))) more)
    by true = follows rest shorter
    by false = tt

-- a | b
pub one_of : {E A : Type 0} (Q : A → List E → Type 0) (test : Bool) (a b : Read (List E) A) → AllOf Q a → AllOf Q b → AllOf Q (if test then a else b)
one_of Q true a b h k = h
one_of Q false a b h k = k

pub skip_leaves : {E : Type 0} (is : E → Bool) (left : List E) → Leaves left (skip is left)
skip_leaves is [] = tt
skip_leaves is (t ∷ rest) = one_of (λ _ l. Ends (t ∷ rest) l) (is t) (Ok (tt, rest)) (Err (length (t ∷ rest))) (record { tokens = t ∷ []; is = refl }) tt

meant_leaves : {E A : Type 0} (found : Option A) (t : E) (rest : List E) → Leaves (t ∷ rest) (meant found (t ∷ rest) rest)
meant_leaves None t rest = tt
meant_leaves (Some x) t rest = record { tokens = t ∷ []; is = refl }

pub one_leaves : {E A : Type 0} (meaning : E → Option A) (left : List E) → Leaves left (one_as meaning left)
one_leaves meaning [] = tt
one_leaves meaning (t ∷ rest) = meant_leaves (meaning t) t rest

-- { part }
pub turns_leave : {E A : Type 0} (begins : List E → Bool) (part : A → Reader (List E) A) → ((x : A) (left : List E) → Leaves left (part x left))
    → (n : ℕ) (before : A) (left : List E) → Leaves left (turns n begins part before left)
unfolding turns
turns_leave begins part leaves zero before left = all_left left
turns_leave begins part leaves (suc n) before left =
    one_of (λ _ l. Ends left l) (begins left) (and_then (part before left) (turns n begins part)) (Ok (before, left))
    (step (λ _ l. Ends left l) left left (part before left) (turns n begins part) (all_left left) (leaves before left)
    (λ x rest e. last left rest (turns n begins part x rest) e (turns_leave begins part leaves n x rest)))
    (all_left left)
