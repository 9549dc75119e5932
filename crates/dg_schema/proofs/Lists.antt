-- Tokenizers that stand once each, at a place of their list.
use Rattle.std.proofs.Common.{◌≡◌, ℕ, ◌+◌, ◌≤◌, ◌<◌, true, false, List, ◌∷◌, length, drop, get_or, refl, ap, ◌∙◌}
use Rattle.std.proofs.lemmas.List.{drop_more, drop_all}
use Rattle.dg_values.specs.declared.kind.Tokenizer.{Tokenizer}
use Rattle.dg_schema.specs.Grammar.{is_in, distinct}

first : (t : Tokenizer) (ts : List Tokenizer) → is_in t ts ≡ false → distinct (t ∷ ts) ≡ distinct ts
unfolding distinct
first t ts h = rw h refl

again : (t : Tokenizer) (ts : List Tokenizer) → is_in t ts ≡ true → distinct (t ∷ ts) ≡ false
unfolding distinct
again t ts h = rw h refl

pub distinct_yes : (ts : List Tokenizer) (i : ℕ) (d : Tokenizer) → i < length ts → is_in (get_or ts i d) (drop (i + 1) ts) ≡ false → distinct (drop i ts) ≡ distinct (drop (i + 1) ts)
distinct_yes ts i d lt h = ap distinct (drop_more ts i d lt) ∙ first (get_or ts i d) (drop (i + 1) ts) h

pub distinct_no : (ts : List Tokenizer) (i : ℕ) (d : Tokenizer) → i < length ts → is_in (get_or ts i d) (drop (i + 1) ts) ≡ true → distinct (drop i ts) ≡ false
distinct_no ts i d lt h = ap distinct (drop_more ts i d lt) ∙ again (get_or ts i d) (drop (i + 1) ts) h

pub distinct_end : (ts : List Tokenizer) (i : ℕ) → length ts ≤ i → distinct (drop i ts) ≡ true
unfolding distinct
distinct_end ts i le = rw (drop_all i ts le) refl
