-- A text of bytes that are not escaped is quoted as it is.
use Rattle.std.proofs.Common.{◌≡◌, ℕ, Bool, true, false, List, [], ◌∷◌, ◌++◌, refl, sym, ap, ◌∙◌, eqb-true}
use Rattle.std.specs.Prelude.{not, ◌&&◌, ◌==◌, nat_lt}
use Rattle.std.specs.List.{list_all}
use Rattle.std.proofs.lemmas.Bool.{true≢false}
use Rattle.json.specs.Print.{escape_byte, escape, quoted}
use Rattle.dg_tree.specs.Plain.{is_plain_byte, in_quotes}

both : (a b : Bool) → (a && b) ≡ true → (a ≡ true) × (b ≡ true)
both true b h = (refl, h)
both false b h = absurd (true≢false (sym h))

not_so : (a : Bool) → not a ≡ true → a ≡ false
not_so true h = absurd (true≢false (sym h))
not_so false h = refl

-- a byte that passes a test isn't one that doesn't
apart : (test : ℕ → Bool) (b c : ℕ) → test c ≡ false → test b ≡ true → (b == c) ≡ false
apart test b c none h = by (b == c) refl
  where
    by : (v : Bool) → (b == c) ≡ v → v ≡ false
    by true e = absurd (true≢false (sym h ∙ ap test (eqb-true b c e) ∙ none))
    by false e = refl

no_control : (b : ℕ) → is_plain_byte b ≡ true → nat_lt b 32 ≡ false
no_control b h = not_so (nat_lt b 32) (both (not (nat_lt b 32)) (not (b == 34)) (both (not (nat_lt b 32) && not (b == 34)) (not (b == 92)) h).0).0

as_it_is : (b : ℕ) → is_plain_byte b ≡ true → escape_byte b ≡ b ∷ []
unfolding escape_byte
as_it_is b h =
    rw (
      apart is_plain_byte b 34 refl h,
      apart is_plain_byte b 92 refl h,
      apart is_plain_byte b 8 refl h,
      apart is_plain_byte b 12 refl h,
      apart is_plain_byte b 10 refl h,
      apart is_plain_byte b 13 refl h,
      apart is_plain_byte b 9 refl h,
      no_control b h,
    ) refl

all_as_they_are : (text : List ℕ) → list_all is_plain_byte text ≡ true → escape text ≡ text
all_as_they_are [] h = refl
all_as_they_are (b ∷ text) h =
    let two = both (is_plain_byte b) (list_all is_plain_byte text) h in
    (λ i. as_it_is b two.0 i ++ all_as_they_are text two.1 i)

pub plain_quoted : (text : List ℕ) → list_all is_plain_byte text ≡ true → quoted text ≡ in_quotes text
plain_quoted text h = ap (λ t. 34 ∷ (t ++ 34 ∷ [])) (all_as_they_are text h)
