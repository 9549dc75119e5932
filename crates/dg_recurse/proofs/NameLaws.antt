-- Names of nodes don't matter.
use Rattle.std.proofs.Common.{◌≡◌, ℕ, zero, suc, ◌<◌, ◌==◌, Bool, true, false, ◌||◌, not, if◌then◌else◌, List, [], ◌∷◌, ◌++◌, map, flat_map, refl, sym, ap, ◌∙◌}
use Rattle.std.specs.List.{AllByRecursion}
use Rattle.std.proofs.lemmas.Bool.{false≢true, eqb-true, eq-eqb, ne_eqb}
use Rattle.dg_tree.specs.declared.tree.Tree.{Tree}
use Rattle.dg_tree.specs.declared.tree.Field.{Field}
use Rattle.dg_recurse.specs.Unfolding.{Piece, own, edge, under, node_of, edge_trees, is_on, off_path, piece_shown, unfolded}
use Rattle.dg_recurse.specs.Laws.{renamed, AreBelow, LeadsBelow, NamesDontMatter}

module _ (name : ℕ → ℕ) (count : ℕ) (apart : (a b : ℕ) → a < count → b < count → name a ≡ name b → a ≡ b) where
  same_test : (a b : ℕ) → a < count → b < count → (name a == name b) ≡ (a == b)
  same_test a b a_below b_below = by (a == b) refl
    where
      by : (t : Bool) → (a == b) ≡ t → (name a == name b) ≡ t
      by true e = eq-eqb (name a) (name b) (ap name (eqb-true a b e))
      by false e = ne_eqb (name a) (name b) (λ same. false≢true (sym e ∙ eq-eqb a b (apart a b a_below b_below same)))

  same_on : (path : List ℕ) (node : ℕ) → AreBelow count path → node < count → is_on (map name path) (name node) ≡ is_on path node
  same_on [] node below lt = refl
  same_on (p ∷ path) node below lt = λ i. same_test p node below.0 lt i || same_on path node below.1 lt i

  same_off : (again : Bool) (path nodes : List ℕ) → AreBelow count path → AreBelow count nodes → off_path again (map name path) (map name nodes) ≡ map name (off_path again path nodes)
  same_off true path nodes path_below below = refl
  same_off false path [] path_below below = refl
  same_off false path (n ∷ nodes) path_below below = by (is_on (map name path) (name n)) (is_on path n) (same_on path n path_below below.0) (same_off false path nodes path_below below.1)
    where
      by : (a b : Bool) → a ≡ b → off_path false (map name path) (map name nodes) ≡ map name (off_path false path nodes)
          → (if not a then name n ∷ off_path false (map name path) (map name nodes) else off_path false (map name path) (map name nodes)) ≡ map name (if not b then n ∷ off_path false path nodes else off_path false path nodes)
      by true true e later = later
      by true false e later = absurd (false≢true (sym e))
      by false true e later = absurd (false≢true e)
      by false false e later = ap (λ l. name n ∷ l) later

  still_below : (again : Bool) (path nodes : List ℕ) → AreBelow count nodes → AreBelow count (off_path again path nodes)
  still_below true path nodes below = below
  still_below false path [] below = tt
  still_below false path (n ∷ nodes) below = by (not (is_on path n)) (still_below false path nodes below.1)
    where
      by : (t : Bool) → AreBelow count (off_path false path nodes) → AreBelow count (if t then n ∷ off_path false path nodes else off_path false path nodes)
      by true later = (below.0, later)
      by false later = later

  -- what nodes show, by those of the names and those of the places
  module _ (of_names of_places : ℕ → List Field) (same : (n : ℕ) → n < count → of_names (name n) ≡ of_places n) where
    same_nodes : (nodes : List ℕ) → AreBelow count nodes → flat_map (λ n. node_of (of_names n)) (map name nodes) ≡ flat_map (λ n. node_of (of_places n)) nodes
    same_nodes [] below = refl
    same_nodes (n ∷ nodes) below = λ i. node_of (same n below.0 i) ++ same_nodes nodes below.1 i

  module _ (of_names of_places : List ℕ → List Tree) (same : (nodes : List ℕ) → AreBelow count nodes → of_names (map name nodes) ≡ of_places nodes) where
    same_piece : (piece : Piece) → LeadsBelow count piece → piece_shown of_names (renamed name piece) ≡ piece_shown of_places piece
    same_piece (own fields) below = refl
    same_piece (edge key single nodes) below = ap (λ shown. map (under key) (edge_trees single shown)) (same nodes below)

    same_pieces : (pieces : List Piece) → AllByRecursion (LeadsBelow count) pieces → flat_map (piece_shown of_names) (map (renamed name) pieces) ≡ flat_map (piece_shown of_places) pieces
    same_pieces [] below = refl
    same_pieces (piece ∷ pieces) below = λ i. same_piece piece below.0 i ++ same_pieces pieces below.1 i

pub names_dont_matter : NamesDontMatter
unfolding unfolded
names_dont_matter name count pieces places again zero path node apart named leads path_below lt =
    ap (flat_map (piece_shown (λ nodes. []))) (named node lt)
    ∙ same_pieces name count apart (λ nodes. []) (λ nodes. []) (λ nodes below. refl) (places node) (leads node lt)
names_dont_matter name count pieces places again (suc left) path node apart named leads path_below lt =
    ap (flat_map (piece_shown (λ nodes. flat_map (λ n. node_of (unfolded pieces again left (n ∷ map name path) n)) (off_path again (map name path) nodes)))) (named node lt)
    ∙ same_pieces name count apart
    (λ nodes. flat_map (λ n. node_of (unfolded pieces again left (n ∷ map name path) n)) (off_path again (map name path) nodes))
    (λ nodes. flat_map (λ n. node_of (unfolded places again left (n ∷ path) n)) (off_path again path nodes))
    (
    λ nodes below.
    ap (flat_map (λ n. node_of (unfolded pieces again left (n ∷ map name path) n))) (same_off name count apart again path nodes path_below below)
    ∙ same_nodes name count apart (λ n. unfolded pieces again left (n ∷ map name path) n) (λ n. unfolded places again left (n ∷ path) n)
    (λ n below. names_dont_matter name count pieces places again left (n ∷ path) n apart named leads (below, path_below) below)
    (off_path again path nodes)
    (still_below name count apart again path nodes below)
    )
    (places node)
    (leads node lt)
