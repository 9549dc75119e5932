use Rattle.std.proofs.Common.{◌≡◌, ℕ, ◌⊎◌, inl, inr, Bool, true, false, ◌||◌, eqb, List, [], ◌∷◌, drop, length, refl, sym, ◌∙◌, lit<}
use Rattle.std.specs.Prelude.{IsTrue, ◌≢◌, Option, Some, None, cond, find, IfNone}
use Rattle.std.specs.List.{list_any, starts_with}
use Rattle.std.specs.Str.{bytes_eq}
use Rattle.std.proofs.lemmas.Bool.{false≢true}
use Rattle.std.proofs.lemmas.Bool.Decides.{Decides-eqb}
use Rattle.std.proofs.lemmas.List.Folds.{list_any_at}
use Rattle.std.proofs.lemmas.Slice.Eq.{starts_is, bytes_eq-Decides}
use Rattle.dg_wire.specs.declared.verb.TheConstants.Verb.{ALL}
use Rattle.dg_wire.specs.declared.verb.Verb.{Verb}
use Rattle.dg_wire.specs.declared.verb.Verb.TheVariants as verbs
use Rattle.dg_wire.specs.Verbs.{name_of}
use Rattle.dg_wire.specs.Cuts.{BeginsVerb}

-- a test that a verb passes is passed by one of all
passed : (p : Verb → Bool) (verb : Verb) → p verb ≡ true → list_any p ALL ≡ true
passed p verbs.Alter h = list_any_at p ALL 0 verbs.Alter (lit< tt) h
passed p verbs.Begin h = list_any_at p ALL 1 verbs.Alter (lit< tt) h
passed p verbs.Mutate h = list_any_at p ALL 2 verbs.Alter (lit< tt) h
passed p verbs.Upsert h = list_any_at p ALL 3 verbs.Alter (lit< tt) h
passed p verbs.Query h = list_any_at p ALL 4 verbs.Alter (lit< tt) h
passed p verbs.Commit h = list_any_at p ALL 5 verbs.Alter (lit< tt) h
passed p verbs.Discard h = list_any_at p ALL 6 verbs.Alter (lit< tt) h
passed p verbs.Line h = list_any_at p ALL 7 verbs.Alter (lit< tt) h
passed p verbs.Roll h = list_any_at p ALL 8 verbs.Alter (lit< tt) h
passed p verbs.RollPlan h = list_any_at p ALL 9 verbs.Alter (lit< tt) h
passed p verbs.RollInstall h = list_any_at p ALL 10 verbs.Alter (lit< tt) h
passed p verbs.MoveStart h = list_any_at p ALL 11 verbs.Alter (lit< tt) h
passed p verbs.MoveCopy h = list_any_at p ALL 12 verbs.Alter (lit< tt) h
passed p verbs.MoveHold h = list_any_at p ALL 13 verbs.Alter (lit< tt) h
passed p verbs.MoveFlip h = list_any_at p ALL 14 verbs.Alter (lit< tt) h
passed p verbs.MoveOff h = list_any_at p ALL 15 verbs.Alter (lit< tt) h
passed p verbs.State h = list_any_at p ALL 16 verbs.Alter (lit< tt) h

either : (a b : Bool) → (a || b) ≡ true → (a ≡ true) ⊎ (b ≡ true)
either true b h = inl refl
either false b h = inr h

-- and one of a list passes it where the list does
passing : (p : Verb → Bool) (vs : List Verb) → list_any p vs ≡ true → (verb : Verb) × (p verb ≡ true)
passing p [] h = absurd (false≢true h)
passing p (v ∷ vs) h = elim (either (p v) (list_any p vs) h) [ inl e ↦ (v, e) | inr k ↦ passing p vs k ]

-- the test by names says whether some name begins so
pub names_begin : (word : List ℕ) (r : Bool) → r ≡ list_any (λ verb. starts_with eqb (name_of verb) word) ALL → (IsTrue r → BeginsVerb word) × (BeginsVerb word → IsTrue r)
names_begin word r is = (
  λ h. let found = passing (λ verb. starts_with eqb (name_of verb) word) ALL (sym is ∙ h) in
      (found.0, (drop (length word) (name_of found.0), sym ((starts_is Decides-eqb (name_of found.0) word (starts_with eqb (name_of found.0) word) refl).0 found.1))),
  λ (verb, (rest, e)). is ∙ passed (λ v. starts_with eqb (name_of v) word) verb ((starts_is Decides-eqb (name_of verb) word (starts_with eqb (name_of verb) word) refl).1 rest (sym e)),
)

-- where none is found, none passes
none_pass : (p : Verb → Bool) (vs : List Verb) → find p vs ≡ None → list_any p vs ≡ false
none_pass p [] e = refl
none_pass p (v ∷ vs) e = by (p v) (none_pass p vs) e
  where
    by : (b : Bool) → (find p vs ≡ None → list_any p vs ≡ false) → cond b (Some v) (find p vs) ≡ None → (b || list_any p vs) ≡ false
    by true more e = cc
    by false more e = more e

-- where no verb is found by its name, none has that name
pub none_named : (word : List ℕ) (found : Option Verb) → found ≡ find (λ verb. bytes_eq (name_of verb) word) ALL → IfNone found ((verb : Verb) → word ≢ name_of verb)
none_named word (Some verb) is = tt
none_named word None is = λ verb same.
    let test = λ (v : Verb). bytes_eq (name_of v) word in
    false≢true (sym (none_pass test ALL (sym is)) ∙ passed test verb ((bytes_eq-Decides (name_of verb) word).1 (sym same)))
