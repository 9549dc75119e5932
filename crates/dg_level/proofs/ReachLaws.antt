-- Nothing but what a recursion reaches is shown: nodes that no path of its length comes to can be left out of the lists.
use Rattle.std.proofs.Common.{◌≡◌, ℕ, zero, suc, ◌+◌, ◌-◌, ◌<◌, ◌≤◌, Bool, true, false, ◌⊎◌, inl, inr, List, [], ◌∷◌, ◌++◌, map, flat_map, refl, sym, ap, ◌∙◌, arith, true≢false}
use Rattle.std.proofs.lemmas.List.Folds.{list_any-append}
use Rattle.std.specs.Prelude.{◌&&◌, ◌||◌, not, if◌then◌else◌, filter}
use Rattle.std.specs.Ordering.{nat_cmp, is_eq}
use Rattle.dg_values.specs.Ascending.{ascending, has}
use Rattle.dg_sets.proofs.MadeOrders.{nat_order}
use Rattle.dg_sets.proofs.Sets.{is_one, is_itself, has_joined, has_more, has_passed}
use Rattle.dg_uids.specs.Sets.{either, lacking}
use Rattle.dg_funcs.proofs.PassLaws.{or_true, filter_same, filter_true}
use Rattle.dg_tree.specs.declared.tree.Tree.{Tree}
use Rattle.dg_level.specs.Shown.{under, node_of}
use Rattle.dg_graph.specs.declared.change.Triple.{Triple}
use Rattle.dg_check.specs.declared.vars.Variable.{Variable}
use Rattle.dg_level.specs.declared.looped.Fetched.{Fetched}
use Rattle.dg_level.specs.declared.reaching.Step.{Step}
use Rattle.dg_level.specs.Looping.{PieceOf, pieces_by, nodes_in, nodes_fetched, AreFetched}
use Rattle.dg_level.specs.Reaching.{nodes_of_pieces, one_step, within_steps, piece_within, led_to, pieces_within, Reaches, is_near, AreSteps}
use Rattle.dg_level.proofs.ListLaws.{ascending_has}
use Rattle.dg_level.proofs.LoopRows.{nodes_are}
use Rattle.dg_level.specs.Unfolding.{Piece, own, edge, is_on, off_path, edge_trees, piece_shown, unfolded}

or_left : (a b : Bool) → a ≡ true → (a || b) ≡ true
or_left true b e = refl
or_left false b e = absurd (true≢false (sym e))

and_right : (a b : Bool) → (a && b) ≡ true → b ≡ true
and_right true b e = e
and_right false b e = absurd (true≢false (sym e))

in_one_of : {P : Type 0} (a b : Bool) → (a || b) ≡ true → (a ≡ true → P) → (b ≡ true → P) → P
in_one_of true b e f g = f refl
in_one_of false b e f g = g e

-- ---- lists that agree on their nodes

pub first_in : (x : ℕ) (xs : List ℕ) → has nat_cmp (x ∷ xs) x ≡ true
first_in x xs = or_left (is_eq (nat_cmp x x)) (has nat_cmp xs x) (is_itself nat_cmp nat_order x)

flat_same : (f g : ℕ → List Tree) (xs : List ℕ) → ((u : ℕ) → has nat_cmp xs u ≡ true → f u ≡ g u) → flat_map f xs ≡ flat_map g xs
flat_same f g [] same = refl
flat_same f g (x ∷ xs) same =
    let here = same x (first_in x xs) in
    let rest = flat_same f g xs (λ u h. same u (or_true (is_eq (nat_cmp x u)) (has nat_cmp xs u) h)) in
    λ j. here j ++ rest j

all_left : (set nodes : List ℕ) → ((u : ℕ) → has nat_cmp nodes u ≡ true → has nat_cmp set u ≡ true) → filter (λ n. has nat_cmp set n) nodes ≡ nodes
all_left set nodes within = filter_same (λ n. has nat_cmp set n) (λ n. true) nodes within ∙ filter_true nodes

off_within : (again : Bool) (path nodes : List ℕ) (u : ℕ) → has nat_cmp (off_path again path nodes) u ≡ true → has nat_cmp nodes u ≡ true
off_within true path nodes u h = h
off_within false path nodes u h = and_right (not (is_on path u)) (has nat_cmp nodes u) (sym (has_passed nat_cmp nat_order (λ n. not (is_on path n)) nodes u) ∙ h)

-- ---- pieces that lead to no other nodes than a set has

module _ (set : List ℕ) (again : Bool) (path : List ℕ) (inner outer : ℕ → List Tree) where
  pieces_same : (ps : List Piece) → ((u : ℕ) → has nat_cmp (nodes_of_pieces ps) u ≡ true → (has nat_cmp set u ≡ true) × (inner u ≡ outer u))
      → flat_map (piece_shown (λ nodes. flat_map inner (off_path again path nodes))) (map (piece_within set) ps) ≡ flat_map (piece_shown (λ nodes. flat_map outer (off_path again path nodes))) ps
  pieces_same [] each = refl
  pieces_same (own fields ∷ ps) each = ap (λ fs. fields ++ fs) (pieces_same ps each)
  pieces_same (edge key single nodes ∷ ps) each =
      let front = λ (u : ℕ) (h : has nat_cmp nodes u ≡ true). each u (has_joined nat_cmp nat_order nodes (nodes_of_pieces ps) u ∙ or_left (has nat_cmp nodes u) (has nat_cmp (nodes_of_pieces ps) u) h) in
      let all = all_left set nodes (λ u h. (front u h).0) in
      let here : flat_map inner (off_path again path (filter (λ n. has nat_cmp set n) nodes)) ≡ flat_map outer (off_path again path nodes) =
      ap (λ ns. flat_map inner (off_path again path ns)) all ∙ flat_same inner outer (off_path again path nodes) (λ u h. (front u (off_within again path nodes u h)).1) in
      let rest = pieces_same ps (λ u h. each u (has_joined nat_cmp nat_order nodes (nodes_of_pieces ps) u ∙ or_true (has nat_cmp nodes u) (has nat_cmp (nodes_of_pieces ps) u) h)) in
      λ j. map (under key) (edge_trees single (here j)) ++ rest j

no_more : (set : List ℕ) (ps : List Piece) → flat_map (piece_shown (λ nodes. [])) (map (piece_within set) ps) ≡ flat_map (piece_shown (λ nodes. [])) ps
no_more set [] = refl
no_more set (own fields ∷ ps) = ap (λ fs. fields ++ fs) (no_more set ps)
no_more set (edge key single nodes ∷ ps) = ap (λ fs. map (under key) (edge_trees single []) ++ fs) (no_more set ps)

-- ---- sets that grow step by step

module _ (pieces : ℕ → List Piece) (again : Bool) (set : List ℕ) (near : ℕ → Bool) (top : ℕ) (reach : ℕ → List ℕ)
    (leads : (k node u : ℕ) → has nat_cmp (reach k) node ≡ true → has nat_cmp (nodes_of_pieces (pieces node)) u ≡ true → has nat_cmp (reach (suc k)) u ≡ true)
    (within : (k u : ℕ) → k ≤ top → has nat_cmp (reach k) u ≡ true → has nat_cmp set u ≡ true)
    (nearer : (k u : ℕ) → k < top → has nat_cmp (reach k) u ≡ true → near u ≡ true) where
  pub reached_alone : (left k : ℕ) (path : List ℕ) (node : ℕ) → has nat_cmp (reach k) node ≡ true → k + left ≤ top → unfolded (pieces_within (led_to near set) pieces) again left path node ≡ unfolded pieces again left path node
  unfolding unfolded
  reached_alone zero k path node here most = no_more (led_to near set node) (pieces node)
  reached_alone (suc left) k path node here most =
      let on : near node ≡ true = nearer k node (omega (arith, most)) here in
      ap (λ (b : Bool). flat_map (piece_shown (λ nodes. flat_map (λ n. node_of (unfolded (pieces_within (led_to near set) pieces) again left (n ∷ path) n)) (off_path again path nodes))) (map (piece_within (if b then set else [])) (pieces node))) on
      ∙ pieces_same set again path (λ n. node_of (unfolded (pieces_within (led_to near set) pieces) again left (n ∷ path) n)) (λ n. node_of (unfolded pieces again left (n ∷ path) n)) (pieces node)
      (λ u h.
      let next = leads k node u here h in
      (within (suc k) u (omega (arith, most)) next, ap node_of (reached_alone left (suc k) (u ∷ path) u next (omega (arith, most)))))

-- ---- the nodes within so many steps are such sets

module _ (pieces : ℕ → List Piece) (roots : List ℕ) where
  step_from : (nodes : List ℕ) (node u : ℕ) → has nat_cmp nodes node ≡ true → has nat_cmp (nodes_of_pieces (pieces node)) u ≡ true → has nat_cmp (one_step pieces nodes) u ≡ true
  step_from [] node u here h = absurd (true≢false (sym here))
  step_from (n ∷ nodes) node u here h =
      has_joined nat_cmp nat_order (nodes_of_pieces (pieces n)) (one_step pieces nodes) u
      ∙ in_one_of (is_eq (nat_cmp n node)) (has nat_cmp nodes node) here
      (λ same. or_left (has nat_cmp (nodes_of_pieces (pieces n)) u) (has nat_cmp (one_step pieces nodes) u) (ap (λ m. has nat_cmp (nodes_of_pieces (pieces m)) u) (is_one nat_cmp nat_order n node same) ∙ h))
      (λ later. or_true (has nat_cmp (nodes_of_pieces (pieces n)) u) (has nat_cmp (one_step pieces nodes) u) (step_from nodes node u later h))

  pub steps_lead : (k node u : ℕ) → has nat_cmp (within_steps pieces k roots) node ≡ true → has nat_cmp (nodes_of_pieces (pieces node)) u ≡ true → has nat_cmp (within_steps pieces (suc k) roots) u ≡ true
  steps_lead k node u here h =
      let before = within_steps pieces k roots in
      has_joined nat_cmp nat_order before (one_step pieces before) u ∙ or_true (has nat_cmp before u) (has nat_cmp (one_step pieces before) u) (step_from before node u here h)

  more_steps : (k j u : ℕ) → has nat_cmp (within_steps pieces k roots) u ≡ true → has nat_cmp (within_steps pieces (j + k) roots) u ≡ true
  more_steps k zero u h = let e : 0 + k ≡ k = omega arith in ap (λ m. has nat_cmp (within_steps pieces m roots) u) e ∙ h
  more_steps k (suc j) u h =
      let e : suc j + k ≡ suc (j + k) = omega arith in
      let before = within_steps pieces (j + k) roots in
      ap (λ m. has nat_cmp (within_steps pieces m roots) u) e
      ∙ (has_joined nat_cmp nat_order before (one_step pieces before) u ∙ or_left (has nat_cmp before u) (has nat_cmp (one_step pieces before) u) (more_steps k j u h))

  pub steps_within : (top k u : ℕ) → k ≤ top → has nat_cmp (within_steps pieces k roots) u ≡ true → has nat_cmp (within_steps pieces top roots) u ≡ true
  steps_within top k u most h =
      let e : (top - k) + k ≡ top = omega (arith, most) in
      sym (ap (λ m. has nat_cmp (within_steps pieces m roots) u) e) ∙ more_steps k (top - k) u h

-- ---- sets that are found round by round

-- a node of the list comes from some node
from_step : (pieces : ℕ → List Piece) (nodes : List ℕ) (u : ℕ) → has nat_cmp (one_step pieces nodes) u ≡ true → (n : ℕ) × (has nat_cmp nodes n ≡ true) × (has nat_cmp (nodes_of_pieces (pieces n)) u ≡ true)
from_step pieces [] u h = absurd (true≢false (sym h))
from_step pieces (x ∷ xs) u h =
    in_one_of (has nat_cmp (nodes_of_pieces (pieces x)) u) (has nat_cmp (one_step pieces xs) u) (sym (has_joined nat_cmp nat_order (nodes_of_pieces (pieces x)) (one_step pieces xs) u) ∙ h)
    (λ here. (x, first_in x xs, here))
    (λ later. let more = from_step pieces xs u later in (more.0, or_true (is_eq (nat_cmp x more.0)) (has nat_cmp xs more.0) more.1, more.2))

-- what is found so far has all nodes within so many steps, and all nodes one step further but for those one step from the new ones
pub record Spread (pieces : ℕ → List Piece) (roots : List ℕ) (steps : ℕ) (found fresh : List ℕ) : Type 0 where
  pub all : (u : ℕ) → has nat_cmp (within_steps pieces steps roots) u ≡ true → has nat_cmp found u ≡ true
  pub behind : (n u : ℕ) → has nat_cmp found n ≡ true → has nat_cmp (nodes_of_pieces (pieces n)) u ≡ true → (has nat_cmp found u || has nat_cmp (one_step pieces fresh) u) ≡ true

module _ (pieces : ℕ → List Piece) (roots : List ℕ) where
  pub spread_first : (found fresh : List ℕ) → found ≡ roots → fresh ≡ roots → Spread pieces roots 0 found fresh
  spread_first found fresh is new = record {
    all = λ u h. ap (λ l. has nat_cmp l u) is ∙ h;
    behind = λ n u here h.
        or_true (has nat_cmp found u) (has nat_cmp (one_step pieces fresh) u)
        (ap (λ l. has nat_cmp (one_step pieces l) u) new ∙ step_from pieces roots roots n u (sym (ap (λ l. has nat_cmp l n) is) ∙ here) h);
  }

  -- one round more
  module _ (steps : ℕ) (found fresh more : List ℕ) (is : (u : ℕ) → has nat_cmp more u ≡ (not (has nat_cmp found u) && has nat_cmp (one_step pieces fresh) u)) (so_far : Spread pieces roots steps found fresh) where
    new_there : (u : ℕ) (b : Bool) → has nat_cmp found u ≡ b → (has nat_cmp found u ≡ true) ⊎ (has nat_cmp (one_step pieces fresh) u ≡ true) → (has nat_cmp found u || has nat_cmp more u) ≡ true
    new_there u true e cases = or_left (has nat_cmp found u) (has nat_cmp more u) e
    new_there u false e (inl t) = absurd (true≢false (sym t ∙ e))
    new_there u false e (inr t) = or_true (has nat_cmp found u) (has nat_cmp more u) (is u ∙ (λ j. not (e j) && t j))

    -- the nodes one step further are found or new
    met : (u : ℕ) → (has nat_cmp found u || has nat_cmp (one_step pieces fresh) u) ≡ true → has nat_cmp (either found more) u ≡ true
    met u h =
        has_more nat_cmp nat_order found more u
        ∙ new_there u (has nat_cmp found u) refl (in_one_of (has nat_cmp found u) (has nat_cmp (one_step pieces fresh) u) h (λ t. inl t) (λ t. inr t))

    pub spread_on : (all : List ℕ) → all ≡ either found more → Spread pieces roots (suc steps) all more
    spread_on whole whole_is = record {
      all = λ u h.
          let before = within_steps pieces steps roots in
          ap (λ l. has nat_cmp l u) whole_is
          ∙ in_one_of (has nat_cmp before u) (has nat_cmp (one_step pieces before) u) (sym (has_joined nat_cmp nat_order before (one_step pieces before) u) ∙ h)
          (λ here. met u (or_left (has nat_cmp found u) (has nat_cmp (one_step pieces fresh) u) (so_far.all u here)))
          (λ next. let from = from_step pieces before u next in met u (so_far.behind from.0 u (so_far.all from.0 from.1) from.2));
      behind = λ n u here h.
          in_one_of (has nat_cmp found n) (has nat_cmp more n) (sym (has_more nat_cmp nat_order found more n) ∙ (sym (ap (λ l. has nat_cmp l n) whole_is) ∙ here))
          (λ old. or_left (has nat_cmp whole u) (has nat_cmp (one_step pieces more) u) (ap (λ l. has nat_cmp l u) whole_is ∙ met u (so_far.behind n u old h)))
          (λ new. or_true (has nat_cmp whole u) (has nat_cmp (one_step pieces more) u) (step_from pieces roots more n u new h));
    }

-- ---- what is near

-- of what is found so far these are near: all nodes fewer steps away, and all but the new ones
pub record Nearer (pieces : ℕ → List Piece) (roots : List ℕ) (steps : ℕ) (found fresh : List ℕ) (near : ℕ → Bool) : Type 0 where
  pub fewer : (k u : ℕ) → k < steps → has nat_cmp (within_steps pieces k roots) u ≡ true → near u ≡ true
  pub rest : (u : ℕ) → has nat_cmp found u ≡ true → (near u || has nat_cmp fresh u) ≡ true

module _ (pieces : ℕ → List Piece) (roots : List ℕ) where
  pub nearer_first : (found fresh : List ℕ) (near : ℕ → Bool) → found ≡ roots → fresh ≡ roots → Nearer pieces roots 0 found fresh near
  nearer_first found fresh near is new = record {
    fewer = λ k u less h. absurd (omega (arith, less));
    rest = λ u h. or_true (near u) (has nat_cmp fresh u) (ap (λ l. has nat_cmp l u) (new ∙ sym is) ∙ h);
  }

  -- the new ones are near in the next round
  pub nearer_on : (steps : ℕ) (found fresh more all : List ℕ) (near after : ℕ → Bool) → Spread pieces roots steps found fresh → Nearer pieces roots steps found fresh near → ((u : ℕ) → after u ≡ (near u || has nat_cmp fresh u)) → all ≡ either found more
      → Nearer pieces roots (suc steps) all more after
  nearer_on steps found fresh more all near after so_far before is whole_is = record {
    fewer = λ k u less h. is u ∙ before.rest u (so_far.all u (steps_within pieces roots steps k u (omega (arith, less)) h));
    rest = λ u h.
        in_one_of (has nat_cmp found u) (has nat_cmp more u) (sym (has_more nat_cmp nat_order found more u) ∙ (sym (ap (λ l. has nat_cmp l u) whole_is) ∙ h))
        (λ old. or_left (after u) (has nat_cmp more u) (is u ∙ before.rest u old))
        (λ new. or_true (after u) (has nat_cmp more u) new);
  }

  -- after as many rounds all is found that a recursion reaches
  pub all_reached : (steps rounds : ℕ) (found fresh : List ℕ) (near : ℕ → Bool) → steps ≤ rounds → Spread pieces roots rounds found fresh → Nearer pieces roots rounds found fresh near → Reaches pieces steps roots near found
  all_reached steps rounds found fresh near most so_far before = record {
    all = λ u h. so_far.all u (steps_within pieces roots rounds steps u most h);
    nearer = λ k u less h. before.fewer k u (omega (arith, less, most)) h;
  }

-- one step more
or_none : (b : Bool) → (b || false) ≡ b
or_none true = refl
or_none false = refl

pub near_more : (steps : List Step) (step : Step) (u : ℕ) → is_near (steps ++ step ∷ []) u ≡ (is_near steps u || has nat_cmp step.nodes u)
near_more steps step u = list_any-append (λ (s : Step). has nat_cmp s.nodes u) steps (step ∷ []) ∙ ap (λ b. is_near steps u || b) (or_none (has nat_cmp step.nodes u))

pub steps_more : (graph : List Triple) (vars : List Variable) (pieces : List PieceOf) (steps : List Step) (step : Step) → AreSteps graph vars pieces steps → AreFetched graph vars step.nodes step.all.items pieces → AreSteps graph vars pieces (steps ++ step ∷ [])
steps_more graph vars pieces [] step are is = (is, tt)
steps_more graph vars pieces (s ∷ steps) step are is = (are.0, steps_more graph vars pieces steps step are.1 is)

-- ---- field by field, or node by node

or_mixed : (a b c d : Bool) → ((a || b) || (c || d)) ≡ ((a || c) || (b || d))
or_mixed true b c d = refl
or_mixed false true true d = refl
or_mixed false true false d = refl
or_mixed false false c d = refl

module _ (u : ℕ) where
  abbrev of_field : List ℕ → PieceOf → List ℕ
  of_field nodes piece = flat_map (λ n. nodes_in (piece n)) nodes

  first_node : (pieces : List PieceOf) (n : ℕ) (nodes : List ℕ) → has nat_cmp (flat_map (of_field (n ∷ nodes)) pieces) u ≡ (has nat_cmp (nodes_of_pieces (pieces_by pieces n)) u || has nat_cmp (flat_map (of_field nodes) pieces) u)
  first_node [] n nodes = refl
  first_node (piece ∷ pieces) n nodes =
      has_joined nat_cmp nat_order (of_field (n ∷ nodes) piece) (flat_map (of_field (n ∷ nodes)) pieces) u
      ∙ (λ j. has_joined nat_cmp nat_order (nodes_in (piece n)) (of_field nodes piece) u j || first_node pieces n nodes j)
      ∙ or_mixed (has nat_cmp (nodes_in (piece n)) u) (has nat_cmp (of_field nodes piece) u) (has nat_cmp (nodes_of_pieces (pieces_by pieces n)) u) (has nat_cmp (flat_map (of_field nodes) pieces) u)
      ∙ sym (λ j. has_joined nat_cmp nat_order (nodes_in (piece n)) (nodes_of_pieces (pieces_by pieces n)) u j || has_joined nat_cmp nat_order (of_field nodes piece) (flat_map (of_field nodes) pieces) u j)

  no_field : (pieces : List PieceOf) → has nat_cmp (flat_map (of_field []) pieces) u ≡ false
  no_field [] = refl
  no_field (piece ∷ pieces) = no_field pieces

  by_node : (pieces : List PieceOf) (nodes : List ℕ) → has nat_cmp (flat_map (of_field nodes) pieces) u ≡ has nat_cmp (one_step (pieces_by pieces) nodes) u
  by_node pieces [] = no_field pieces
  by_node pieces (n ∷ nodes) =
      first_node pieces n nodes ∙ (λ j. has nat_cmp (nodes_of_pieces (pieces_by pieces n)) u || by_node pieces nodes j) ∙ sym (has_joined nat_cmp nat_order (nodes_of_pieces (pieces_by pieces n)) (one_step (pieces_by pieces) nodes) u)

-- what is fetched leads one step further
pub fetched_step : (graph : List Triple) (vars : List Variable) (nodes : List ℕ) (all : List Fetched) (pieces : List PieceOf) → AreFetched graph vars nodes all pieces
    → (u : ℕ) → has nat_cmp (ascending nat_cmp (nodes_fetched all)) u ≡ has nat_cmp (one_step (pieces_by pieces) nodes) u
fetched_step graph vars nodes all pieces are u = ascending_has (nodes_fetched all) u ∙ (ap (λ l. has nat_cmp l u) (nodes_are graph vars nodes all pieces are) ∙ by_node u pieces nodes)

-- the new ones
pub lacks : (next found : List ℕ) (u : ℕ) → has nat_cmp (lacking next found) u ≡ (not (has nat_cmp found u) && has nat_cmp next u)
lacks next found u = has_passed nat_cmp nat_order (λ n. not (has nat_cmp found n)) next u
