-- One turn of a loop that moves the trees that stay to the front.
use Rattle.std.proofs.Common.{◌≡◌, ◌≢◌, ℕ, ◌+◌, ◌<◌, ◌≤◌, List, [], ◌∷◌, ◌++◌, length, get_or, set, take, ap, sym, ◌∙◌, append-nil, length-set, get_or-set_other, arith}
use Rattle.std.specs.Prelude.{Option, Some, None, filter_map, option_to_list}
use Rattle.std.specs.List.{cons_option}
use Rattle.std.proofs.lemmas.List.{take_more_set, take-set-le, take_more}
use Rattle.std.proofs.lemmas.List.Elements.{filter_map-append}
use Rattle.dg_tree.specs.declared.tree.Tree.{Tree}
use Rattle.dg_shape.specs.Moves.{kept_at}

module _ {X Y : Type 0} where
  filter_map-take_more : (f : X → Option Y) (xs : List X) (i : ℕ) (d : X) → i < length xs → filter_map f (take (i + 1) xs) ≡ filter_map f (take i xs) ++ cons_option (f (get_or xs i d)) []
  filter_map-take_more f xs i d lt = ap (filter_map f) (take_more xs i d lt) ∙ filter_map-append f (take i xs) (get_or xs i d ∷ [])

module _ (f : Tree → Option Tree) (before items : List Tree) (i kept : ℕ) (d x : Tree) (few : kept ≤ i) (within : i < length before) (long : length items ≡ length before)
    (front : take kept items ≡ filter_map f (take i before)) where
  pub kept_more : (o : Option Tree) → f (get_or before i d) ≡ o → take (kept + length (option_to_list o)) (kept_at (set items i x) kept o) ≡ filter_map f (take (i + 1) before)
  kept_more (Some t) e =
      let room : kept < length (set items i x) = grind (arith, length-set) in
      take_more_set (set items i x) kept t room ∙ ap (λ xs. xs ++ t ∷ []) (take-set-le kept items i x few ∙ front)
      ∙ ap (λ o. filter_map f (take i before) ++ cons_option o []) (sym e) ∙ sym (filter_map-take_more f before i d within)
  kept_more None e =
      let none_more : kept + 0 ≡ kept = omega arith in
      ap (λ n. take n (set items i x)) none_more ∙ take-set-le kept items i x few ∙ front ∙ sym (append-nil (filter_map f (take i before)))
      ∙ ap (λ o. filter_map f (take i before) ++ cons_option o []) (sym e) ∙ sym (filter_map-take_more f before i d within)

  pub kept_few : (o : Option Tree) → kept + length (option_to_list o) ≤ i + 1
  kept_few (Some t) = omega arith
  kept_few None = omega arith

  pub kept_length : (o : Option Tree) → length (kept_at (set items i x) kept o) ≡ length before
  kept_length (Some t) = length-set (set items i x) kept t ∙ (length-set items i x ∙ long)
  kept_length None = length-set items i x ∙ long

  pub kept_rest : (o : Option Tree) (k : ℕ) (d' : Tree) → i + 1 ≤ k → get_or (kept_at (set items i x) kept o) k d' ≡ get_or items k d'
  kept_rest (Some t) k d' le =
      let past_kept : k ≢ kept = omega (arith, few) in
      let past_i : k ≢ i = omega arith in
      get_or-set_other (set items i x) kept k t d' past_kept ∙ get_or-set_other items i k x d' past_i
  kept_rest None k d' le = let past_i : k ≢ i = omega arith in get_or-set_other items i k x d' past_i

-- what stays so far stands in front, and the trees to come are as they were
abbrev pub Kept : (Tree → Option Tree) → List Tree → List Tree → ℕ → ℕ → Type 0
Kept f before items i kept =
    (kept ≤ i) × (take kept items ≡ filter_map f (take i before)) × (length items ≡ length before) × ((k : ℕ) (d : Tree) → i ≤ k → get_or items k d ≡ get_or before k d)

pub one_more : (f : Tree → Option Tree) (before items : List Tree) (i kept : ℕ) (d x : Tree) → Kept f before items i kept → i < length before → (o : Option Tree) → f (get_or before i d) ≡ o
    → (count : ℕ) (after : List Tree) → count ≡ kept + length (option_to_list o) → after ≡ kept_at (set items i x) kept o → Kept f before after (i + 1) count
one_more f before items i kept d x k within o e count after p q =
    rw (p, q) (
      kept_few f before items i kept d x k.0 within k.2 k.1 o,
      kept_more f before items i kept d x k.0 within k.2 k.1 o e,
      kept_length f before items i kept d x k.0 within k.2 k.1 o,
      λ n d' le. kept_rest f before items i kept d x k.0 within k.2 k.1 o n d' le ∙ k.3 n d' (omega arith),
    )
