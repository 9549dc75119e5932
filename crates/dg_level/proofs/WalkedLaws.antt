-- What is unfolded by places is what is unfolded by nodes.
use Rattle.std.proofs.Common.{◌≡◌, ℕ, zero, suc, ◌<◌, ◌⊎◌, inl, inr, true, false, Bool, List, [], ◌∷◌, map, length, get_or, refl, sym, ap, ◌∙◌, arith}
use Rattle.std.specs.Prelude.{Some, slice_get}
use Rattle.std.specs.List.{AllByRecursion}
use Rattle.std.specs.declared.cmp.Ordering.TheVariants.{Less, Equal}
use Rattle.std.specs.Ordering.{nat_cmp, is_eq}
use Rattle.dg_values.specs.Ascending.{Ascends, has}
use Rattle.dg_sets.specs.Placing.{StandsAt}
use Rattle.dg_sets.proofs.MadeOrders.{nat_order}
use Rattle.dg_sets.proofs.Sets.{itself}
use Rattle.dg_funcs.proofs.PassLaws.{or_true}
use Rattle.dg_recurse.specs.declared.column.Column.{Column}
use Rattle.dg_recurse.specs.Columns.{AreColumnsOf, pieces_at}
use Rattle.dg_recurse.specs.Laws.{renamed, LeadsBelow}
use Rattle.dg_recurse.proofs.NameLaws.{names_dont_matter}
use Rattle.dg_level.specs.Looping.{PieceOf, pieces_by}
use Rattle.dg_level.specs.Placing.{name_of, ArePlaced}
use Rattle.dg_level.specs.Reaching.{within_steps, led_to, pieces_within, Reaches}
use Rattle.dg_level.specs.Unfolding.{unfolded}
use Rattle.dg_level.proofs.ReachLaws.{first_in, reached_alone, steps_lead, steps_within}

-- ---- the pieces that columns hold

pub record Held (near : ℕ → Bool) (set : List ℕ) (columns : List Column) (pieces : List PieceOf) : Type 0 where
  pub placed : List PieceOf
  pub holds : AreColumnsOf columns placed
  pub names : (place : ℕ) → place < length set → pieces_within (led_to near set) (pieces_by pieces) (name_of set place) ≡ map (renamed (name_of set)) (pieces_at placed place)
  pub below : (place : ℕ) → place < length set → AllByRecursion (LeadsBelow (length set)) (pieces_at placed place)

pub held : (near : ℕ → Bool) (set : List ℕ) (columns : List Column) (pieces : List PieceOf) → ArePlaced near set columns pieces → Held near set columns pieces
held near set [] [] are = record { placed = []; holds = tt; names = λ place lt. refl; below = λ place lt. tt }
held near set [] (piece ∷ pieces) are = absurd are
held near set (column ∷ columns) [] are = absurd are
held near set (column ∷ columns) (piece ∷ pieces) are =
    let first = are.0 in
    let rest = held near set columns pieces are.1 in
    record {
      placed = first.placed ∷ rest.placed;
      holds = (first.holds, rest.holds);
      names = λ place lt. (let here = first.names place lt in let more = rest.names place lt in λ j. here j ∷ more j);
      below = λ place lt. (first.below place lt, rest.below place lt);
    }

-- ---- nodes of a set that ascends have one place each

above_first : (x : ℕ) (xs : List ℕ) (i d : ℕ) → AllByRecursion (λ y. nat_cmp x y ≡ Less) xs → i < length xs → nat_cmp x (get_or xs i d) ≡ Less
above_first x [] i d all lt = absurd (omega (arith, lt))
above_first x (y ∷ ys) zero d all lt = all.0
above_first x (y ∷ ys) (suc i) d all lt = above_first x ys i d all.1 (omega (arith, lt))

apart_below : (set : List ℕ) (a b : ℕ) → Ascends nat_cmp set → a < b → b < length set → nat_cmp (get_or set a 0) (get_or set b 0) ≡ Less
apart_below [] a b ascend less lt = absurd (omega (arith, lt))
apart_below (x ∷ xs) a zero ascend less lt = absurd (omega (arith, less))
apart_below (x ∷ xs) zero (suc b) ascend less lt = above_first x xs b 0 ascend.0 (omega (arith, lt))
apart_below (x ∷ xs) (suc a) (suc b) ascend less lt = apart_below xs a b ascend.1 (omega (arith, less)) (omega (arith, lt))

not_less : (x y : ℕ) → x ≡ y → nat_cmp x y ≡ Less → ⊥
not_less x y same less =
    let e : nat_cmp y y ≡ Less = ap (λ m. nat_cmp m y) (sym same) ∙ less in
    let f = itself nat_cmp nat_order y in
    differ (sym f ∙ e)
  where
    differ : Equal ≡ Less → ⊥
    differ e = absurd (cc)

pub one_place : (set : List ℕ) → Ascends nat_cmp set → (a b : ℕ) → a < length set → b < length set → name_of set a ≡ name_of set b → a ≡ b
one_place set ascend a b la lb same = by (either_way a b)
  where
    either_way : (x y : ℕ) → (x ≡ y) ⊎ ((x < y) ⊎ (y < x))
    either_way zero zero = inl refl
    either_way zero (suc y) = inr (inl (omega arith))
    either_way (suc x) zero = inr (inr (omega arith))
    either_way (suc x) (suc y) = more x y (either_way x y)
      where
        more : (p q : ℕ) → (p ≡ q) ⊎ ((p < q) ⊎ (q < p)) → (suc p ≡ suc q) ⊎ ((suc p < suc q) ⊎ (suc q < suc p))
        more p q (inl e) = inl (ap suc e)
        more p q (inr (inl lt)) = inr (inl (omega (arith, lt)))
        more p q (inr (inr lt)) = inr (inr (omega (arith, lt)))

    by : (a ≡ b) ⊎ ((a < b) ⊎ (b < a)) → a ≡ b
    by (inl e) = e
    by (inr (inl lt)) = absurd (not_less (name_of set a) (name_of set b) same (apart_below set a b ascend lt lb))
    by (inr (inr lt)) = absurd (not_less (name_of set b) (name_of set a) (sym same) (apart_below set b a ascend lt la))

node_there : (set : List ℕ) (place node : ℕ) → slice_get set place ≡ Some node → get_or set place 0 ≡ node
node_there [] place node is = absurd (cc)
node_there (x ∷ xs) zero node is = cc
node_there (x ∷ xs) (suc place) node is = node_there xs place node is

-- ---- by places or by nodes

module _ (near : ℕ → Bool) (set : List ℕ) (ascend : Ascends nat_cmp set) (columns : List Column) (pieces : List PieceOf) (h : Held near set columns pieces) (steps : ℕ) (roots : List ℕ) (reaches : Reaches (pieces_by pieces) steps roots near set) where
  pub walked_same : (node place : ℕ) → has nat_cmp roots node ≡ true → StandsAt nat_cmp set node place → unfolded (pieces_at h.placed) false steps (place ∷ []) place ≡ unfolded (pieces_by pieces) false steps (node ∷ []) node
  walked_same node place root stands =
      let lt : place < length set = stands.within in
      let is = node_there set place node stands.item_is in
      sym (names_dont_matter (name_of set) (length set) (pieces_within (led_to near set) (pieces_by pieces)) (pieces_at h.placed) false steps (place ∷ []) place (one_place set ascend) h.names h.below (lt, tt) lt)
      ∙ (λ j. unfolded (pieces_within (led_to near set) (pieces_by pieces)) false steps (is j ∷ []) (is j))
      ∙ reached_alone (pieces_by pieces) false set near steps (λ k. within_steps (pieces_by pieces) k roots) (steps_lead (pieces_by pieces) roots) (λ k u most there. reaches.all u (steps_within (pieces_by pieces) roots steps k u most there)) reaches.nearer steps 0 (node ∷ []) node root (omega arith)

  -- the roots are among those that are reached
  pub roots_there : (node : ℕ) → has nat_cmp roots node ≡ true → has nat_cmp set node ≡ true
  roots_there node root = reaches.all node (steps_within (pieces_by pieces) roots steps 0 node (omega arith) root)

-- a node of a list is in it
pub has_at : (nodes : List ℕ) (i : ℕ) → i < length nodes → has nat_cmp nodes (get_or nodes i 0) ≡ true
has_at [] i lt = absurd (omega (arith, lt))
has_at (n ∷ nodes) zero lt = first_in n nodes
has_at (n ∷ nodes) (suc i) lt = or_true (is_eq (nat_cmp n (get_or nodes i 0))) (has nat_cmp nodes (get_or nodes i 0)) (has_at nodes i (omega (arith, lt)))
