-- The objects of the nodes of a level, changed one after another.
use Rattle.std.proofs.Common.{◌≡◌, ℕ, zero, suc, ◌+◌, ◌<◌, ◌≤◌, List, [], ◌∷◌, ◌++◌, map, length, take, drop, get_or, set, refl, sym, ap, ◌∙◌, arith, append-nil}
use Rattle.std.specs.Prelude.{sum_by, slice_get, Option, Some, None, option_to_list}
use Rattle.std.proofs.lemmas.List.{take_more_set, take_all, drop_all}
use Rattle.std.proofs.lemmas.List.Sums.{sum_by-append, sum_by-cons}
use Rattle.dg_tree.specs.declared.tree.Tree.{Tree}
use Rattle.dg_tree.specs.declared.tree.Field.{Field}
use Rattle.dg_shape.specs.Normalize.{joined}
use Rattle.dg_level.specs.Shown.{under}
use Rattle.dg_level.specs.FlatLevels.{changed}

-- with nothing more objects are as they are
pub joined_none : (objects : List (List Field)) → map (λ object. joined object []) objects ≡ objects
joined_none [] = refl
joined_none (object ∷ objects) = ap (λ rest. object ∷ rest) (joined_none objects)

pub none_shown : (key : List ℕ) (tree : Option Tree) (objects : List (List Field)) → tree ≡ None → map (λ object. joined object (map (under key) (option_to_list tree))) objects ≡ objects
none_shown key tree objects none = (λ i. map (λ object. joined object (map (under key) (option_to_list (none i)))) objects) ∙ joined_none objects

-- the node at a place
pub node_at : (nodes : List ℕ) (i : ℕ) → i < length nodes → slice_get nodes i ≡ Some (get_or nodes i 0)
node_at [] i lt = absurd (omega (arith, lt))
node_at (n ∷ nodes) zero lt = refl
node_at (n ∷ nodes) (suc i) lt = node_at nodes i (omega (arith, lt))

module _ {X : Type 0} (after before : ℕ → X) where
  pub changed_length : (i : ℕ) (nodes : List ℕ) → length (changed after before i nodes) ≡ length nodes
  changed_length zero [] = refl
  changed_length zero (n ∷ nodes) = ap suc (changed_length zero nodes)
  changed_length (suc i) [] = refl
  changed_length (suc i) (n ∷ nodes) = ap suc (changed_length i nodes)

  -- at the end all are changed
  pub all_changed : (i : ℕ) (nodes : List ℕ) → length nodes ≤ i → changed after before i nodes ≡ map after nodes
  all_changed zero [] le = refl
  all_changed zero (n ∷ nodes) le = absurd (omega (arith, le))
  all_changed (suc i) [] le = refl
  all_changed (suc i) (n ∷ nodes) le = ap (λ xs. after n ∷ xs) (all_changed i nodes (omega (arith, le)))

  -- the next one isn't yet
  pub next_is : (i : ℕ) (nodes : List ℕ) (d : X) → i < length nodes → get_or (changed after before i nodes) i d ≡ before (get_or nodes i 0)
  next_is i [] d lt = absurd (omega (arith, lt))
  next_is zero (n ∷ nodes) d lt = refl
  next_is (suc i) (n ∷ nodes) d lt = next_is i nodes d (omega (arith, lt))

  change_next : (i : ℕ) (nodes : List ℕ) → i < length nodes → set (changed after before i nodes) i (after (get_or nodes i 0)) ≡ changed after before (suc i) nodes
  change_next i [] lt = absurd (omega (arith, lt))
  change_next zero (n ∷ nodes) lt = refl
  change_next (suc i) (n ∷ nodes) lt = ap (λ xs. after n ∷ xs) (change_next i nodes (omega (arith, lt)))

  -- one more
  pub one_changed : (xs : List X) (i : ℕ) (nodes : List ℕ) (x : X) → xs ≡ changed after before i nodes → i < length nodes → x ≡ after (get_or nodes i 0) → set xs i x ≡ changed after before (i + 1) nodes
  one_changed xs i nodes x are lt is =
      let e : i + 1 ≡ suc i = omega arith in
      (λ j. set (are j) i (is j)) ∙ (change_next i nodes lt ∙ ap (λ k. changed after before k nodes) (sym e))

  module _ (size : X → ℕ) where
    -- those that are changed so far and the next one are no larger than all together
    front_within : (i : ℕ) (nodes : List ℕ) → i < length nodes → sum_by size (take i (changed after before i nodes)) + size (after (get_or nodes i 0)) ≤ sum_by (λ n. size (after n)) nodes
    front_within i [] lt = absurd (omega (arith, lt))
    front_within zero (n ∷ nodes) lt = omega (arith, none (map before (n ∷ nodes)), sum_by-cons (λ n. size (after n)) n nodes)
      where
        none : (xs : List X) → sum_by size (take 0 xs) ≡ 0
        none [] = refl
        none (x ∷ xs) = refl
    front_within (suc i) (n ∷ nodes) lt =
        omega (
          arith,
          sum_by-cons size (after n) (take i (changed after before i nodes)),
          sum_by-cons (λ n. size (after n)) n nodes,
          front_within i nodes (omega (arith, lt)),
        )

    -- so what there is no room for with the next one there is none for with all
    pub none_for_all : (xs : List X) (i : ℕ) (nodes : List ℕ) (used limit : ℕ) → xs ≡ changed after before i nodes → i < length nodes → used ≡ sum_by size (take i xs) → limit < used + size (after (get_or nodes i 0))
        → limit < sum_by (λ n. size (after n)) nodes
    none_for_all xs i nodes used limit are lt is above = omega (arith, above, is, ap (λ ys. sum_by size (take i ys)) are, front_within i nodes lt)

-- the sizes of a front, with one more
pub used_next : {X : Type 0} (size : X → ℕ) (xs : List X) (i : ℕ) (x : X) → i < length xs → sum_by size (take (i + 1) (set xs i x)) ≡ sum_by size (take i xs) + size x
used_next size xs i x lt = ap (sum_by size) (take_more_set xs i x lt) ∙ omega (arith, sum_by-append size (take i xs) (x ∷ []), sum_by-cons size x [])

-- what is written over all of a list stands in its place
pub written_back : {X : Type 0} (new old : List X) (n : ℕ) → length new ≡ n → length old ≡ n → take n (new ++ drop (length new) old) ≡ new
written_back new old n made there =
    ap (λ rest. take n (new ++ rest)) (drop_all (length new) old (omega (arith, made, there)))
    ∙ (ap (take n) (append-nil new) ∙ take_all n new (omega (arith, made)))
