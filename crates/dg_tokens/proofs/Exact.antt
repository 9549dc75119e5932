-- The tokens that are listed are exactly those of the value.
use Rattle.std.proofs.Common.{◌≡◌, ℕ, List, [], ◌∷◌, ◌++◌, refl, sym, ap, ◌∙◌, subst, map, inl, inr, append_assoc}
use Rattle.std.specs.Prelude.{◌↔◌, chars, encode_utf8_all}
use Rattle.std.specs.List.{Contains}
use Rattle.dg_values.specs.declared.kind.Tokenizer.{Tokenizer}
use Rattle.dg_values.specs.declared.kind.Tokenizer.TheVariants as tokenizers
use Rattle.dg_values.specs.declared.kind.DatePart.TheVariants as parts
use Rattle.dg_values.specs.declared.value.Value.{Value}
use Rattle.dg_values.specs.declared.value.Value.TheVariants.{Int, Text, Bool as Truth, Time}
use Rattle.dg_values.specs.Calendar.{truncated}
use Rattle.dg_values.specs.Order.{text_cmp}
use Rattle.dg_values.specs.Ascending.{ascending}
use Rattle.dg_tokens.specs.Terms.{IsTerm, IsTrigram, terms_of, runs_of_three, trigrams_of}
use Rattle.dg_tokens.specs.Tokens.{one_token, text_tokens, tokens_of, IsTokenOf}
use Rattle.dg_tokens.specs.declared.tokens.IndexToken.{IndexToken}
use Rattle.dg_tokens.proofs.Among.{IsAmong, among_contains, contains_among, from_ascending, to_ascending}
use Rattle.dg_tokens.proofs.LongestRuns.{terms_are_runs, runs_are_terms}

-- ---- trigrams

-- three characters side by side, spelled so
record IsThree (characters trigram : List ℕ) : Type 0 where
  front : List ℕ
  first : ℕ
  second : ℕ
  third : ℕ
  back : List ℕ
  shape : characters ≡ front ++ (first ∷ second ∷ third ∷ back)
  spelled : encode_utf8_all (first ∷ second ∷ third ∷ []) ≡ trigram

from_three : (before cs : List ℕ) (t : List ℕ) → IsAmong (map encode_utf8_all (runs_of_three cs)) t → IsThree (before ++ cs) t
from_three before [] t h = absurd h
from_three before (a ∷ []) t h = absurd h
from_three before (a ∷ b ∷ []) t h = absurd h
from_three before (a ∷ b ∷ c ∷ cs) t (inl e) = record { front = before; first = a; second = b; third = c; back = cs; shape = refl; spelled = e }
from_three before (a ∷ b ∷ c ∷ cs) t (inr h) = subst (λ (l : List ℕ). IsThree l t) (append_assoc before (a ∷ []) (b ∷ c ∷ cs)) (from_three (before ++ a ∷ []) (b ∷ c ∷ cs) t h)

to_three : (front : List ℕ) (a b c : ℕ) (cs : List ℕ) → IsAmong (map encode_utf8_all (runs_of_three (front ++ (a ∷ b ∷ c ∷ cs)))) (encode_utf8_all (a ∷ b ∷ c ∷ []))
to_three [] a b c cs = inl refl
to_three (x ∷ []) a b c cs = inr (to_three [] a b c cs)
to_three (x ∷ y ∷ []) a b c cs = inr (to_three (y ∷ []) a b c cs)
to_three (x ∷ y ∷ z ∷ front) a b c cs = inr (to_three (y ∷ z ∷ front) a b c cs)

trigrams_are : (text t : List ℕ) → IsAmong (trigrams_of text) t → IsTrigram text t
trigrams_are text t h =
    let r = from_three [] (chars text) t h in
    record { before = r.front; first = r.first; second = r.second; third = r.third; after = r.back; shape = r.shape; spelled = r.spelled }

are_trigrams : (text t : List ℕ) → IsTrigram text t → IsAmong (trigrams_of text) t
are_trigrams text t r =
    subst (λ (l : List ℕ). IsAmong (map encode_utf8_all (runs_of_three l)) t) (sym r.shape)
    (subst (IsAmong (map encode_utf8_all (runs_of_three (r.before ++ (r.first ∷ r.second ∷ r.third ∷ r.after))))) r.spelled (to_three r.before r.first r.second r.third r.after))

-- ---- tokens

same_token : (tokenizer : Tokenizer) (value : Value) (t : IndexToken) → t.tokenizer ≡ tokenizer → t.value ≡ value → record { tokenizer = tokenizer; value = value } ≡ t
same_token tokenizer value t e f = λ i. record { tokenizer = sym e i; value = sym f i }

one : (tokenizer : Tokenizer) (value : Value) (t : IndexToken) → Contains (one_token tokenizer value) t ↔ ((t.tokenizer ≡ tokenizer) × (t.value ≡ value))
one tokenizer value t = (λ c. from (contains_among (one_token tokenizer value) t c), λ h. among_contains (one_token tokenizer value) t (inl (same_token tokenizer value t h.0 h.1)))
  where
    from : IsAmong (one_token tokenizer value) t → (t.tokenizer ≡ tokenizer) × (t.value ≡ value)
    from (inl e) = (sym (ap (λ (x : IndexToken). x.tokenizer) e), sym (ap (λ (x : IndexToken). x.value) e))
    from (inr h) = absurd h

none : (tokenizer : Tokenizer) (t : IndexToken) → Contains {X = IndexToken} [] t ↔ ((t.tokenizer ≡ tokenizer) × ⊥)
none tokenizer t = (λ c. absurd (contains_among [] t c), λ h. absurd h.1)

abbrev token_of : Tokenizer → List ℕ → IndexToken
token_of tokenizer text = record { tokenizer = tokenizer; value = Text text }

-- a token of this text
record IsTextToken (tokenizer : Tokenizer) (xs : List (List ℕ)) (t : IndexToken) : Type 0 where
  maker : t.tokenizer ≡ tokenizer
  text : List ℕ
  is : t.value ≡ Text text
  found : IsAmong xs text

from_texts : (tokenizer : Tokenizer) (xs : List (List ℕ)) (t : IndexToken) → IsAmong (map (λ (x : List ℕ). token_of tokenizer x) xs) t → IsTextToken tokenizer xs t
from_texts tokenizer [] t h = absurd h
from_texts tokenizer (x ∷ xs) t (inl e) = record { maker = sym (ap (λ (k : IndexToken). k.tokenizer) e); text = x; is = sym (ap (λ (k : IndexToken). k.value) e); found = inl refl }
from_texts tokenizer (x ∷ xs) t (inr h) = let r = from_texts tokenizer xs t h in record { maker = r.maker; text = r.text; is = r.is; found = inr r.found }

to_texts : (tokenizer : Tokenizer) (xs : List (List ℕ)) (t : IndexToken) (x : List ℕ) → t.tokenizer ≡ tokenizer → t.value ≡ Text x → IsAmong xs x → IsAmong (map (λ (x : List ℕ). token_of tokenizer x) xs) t
to_texts tokenizer [] t x e f h = absurd h
to_texts tokenizer (y ∷ ys) t x e f (inl h) = inl (same_token tokenizer (Text y) t e (f ∙ ap Text (sym h)))
to_texts tokenizer (y ∷ ys) t x e f (inr h) = inr (to_texts tokenizer ys t x e f h)

module _ (tokenizer : Tokenizer) (xs : List (List ℕ)) (P : List ℕ → Type 0) (to : (x : List ℕ) → IsAmong xs x → P x) (of : (x : List ℕ) → P x → IsAmong xs x) (t : IndexToken) where
  texts : Contains (text_tokens tokenizer xs) t ↔ ((t.tokenizer ≡ tokenizer) × ((x : List ℕ) × (t.value ≡ Text x) × P x))
  texts = (
    λ c. let r = from_texts tokenizer (ascending text_cmp xs) t (contains_among (text_tokens tokenizer xs) t c) in
        (r.maker, (r.text, r.is, to r.text (from_ascending xs r.text r.found))),
    λ h. among_contains (text_tokens tokenizer xs) t (to_texts tokenizer (ascending text_cmp xs) t h.1.0 h.0 h.1.1 (to_ascending xs h.1.0 (of h.1.0 h.1.2))),
  )

pub all_exact : (tokenizer : Tokenizer) (value : Value) (t : IndexToken) → Contains (tokens_of tokenizer value) t ↔ IsTokenOf tokenizer value t
all_exact tokenizers.Exact (Int n) t = none tokenizers.Exact t
all_exact tokenizers.Exact (Text text) t = one tokenizers.Exact (Text text) t
all_exact tokenizers.Exact (Truth b) t = none tokenizers.Exact t
all_exact tokenizers.Exact (Time m) t = none tokenizers.Exact t
all_exact tokenizers.Hash (Int n) t = none tokenizers.Hash t
all_exact tokenizers.Hash (Text text) t = one tokenizers.Hash (Text text) t
all_exact tokenizers.Hash (Truth b) t = none tokenizers.Hash t
all_exact tokenizers.Hash (Time m) t = none tokenizers.Hash t
all_exact tokenizers.Term (Int n) t = none tokenizers.Term t
all_exact tokenizers.Term (Text text) t = texts tokenizers.Term (terms_of text) (IsTerm text) (terms_are_runs text) (runs_are_terms text) t
all_exact tokenizers.Term (Truth b) t = none tokenizers.Term t
all_exact tokenizers.Term (Time m) t = none tokenizers.Term t
all_exact tokenizers.Trigram (Int n) t = none tokenizers.Trigram t
all_exact tokenizers.Trigram (Text text) t = texts tokenizers.Trigram (trigrams_of text) (IsTrigram text) (trigrams_are text) (are_trigrams text) t
all_exact tokenizers.Trigram (Truth b) t = none tokenizers.Trigram t
all_exact tokenizers.Trigram (Time m) t = none tokenizers.Trigram t
all_exact tokenizers.Int (Int n) t = one tokenizers.Int (Int n) t
all_exact tokenizers.Int (Text text) t = none tokenizers.Int t
all_exact tokenizers.Int (Truth b) t = none tokenizers.Int t
all_exact tokenizers.Int (Time m) t = none tokenizers.Int t
all_exact tokenizers.Bool (Int n) t = none tokenizers.Bool t
all_exact tokenizers.Bool (Text text) t = none tokenizers.Bool t
all_exact tokenizers.Bool (Truth b) t = one tokenizers.Bool (Truth b) t
all_exact tokenizers.Bool (Time m) t = none tokenizers.Bool t
all_exact tokenizers.Year (Int n) t = none tokenizers.Year t
all_exact tokenizers.Year (Text text) t = none tokenizers.Year t
all_exact tokenizers.Year (Truth b) t = none tokenizers.Year t
all_exact tokenizers.Year (Time m) t = one tokenizers.Year (Time (truncated parts.Year m)) t
all_exact tokenizers.Month (Int n) t = none tokenizers.Month t
all_exact tokenizers.Month (Text text) t = none tokenizers.Month t
all_exact tokenizers.Month (Truth b) t = none tokenizers.Month t
all_exact tokenizers.Month (Time m) t = one tokenizers.Month (Time (truncated parts.Month m)) t
all_exact tokenizers.Day (Int n) t = none tokenizers.Day t
all_exact tokenizers.Day (Text text) t = none tokenizers.Day t
all_exact tokenizers.Day (Truth b) t = none tokenizers.Day t
all_exact tokenizers.Day (Time m) t = one tokenizers.Day (Time (truncated parts.Day m)) t
all_exact tokenizers.Hour (Int n) t = none tokenizers.Hour t
all_exact tokenizers.Hour (Text text) t = none tokenizers.Hour t
all_exact tokenizers.Hour (Truth b) t = none tokenizers.Hour t
all_exact tokenizers.Hour (Time m) t = one tokenizers.Hour (Time (truncated parts.Hour m)) t
