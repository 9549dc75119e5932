-- Rows by what is fetched, and what the level below has at most.
use Rattle.std.proofs.Common.{◌≡◌, ℕ, zero, suc, ◌+◌, ◌<◌, ◌≤◌, Bool, true, false, List, [], ◌∷◌, ◌++◌, map, flat_map, take, length, get_or, refl, sym, ap, subst, ◌∙◌, arith, length-append, true≢false}
use Rattle.std.proofs.lemmas.List.{map-append}
use Rattle.std.proofs.lemmas.List.Folds.{flat_map-map}
use Rattle.std.proofs.lemmas.List.Sums.{sum_by-cons}
use Rattle.std.specs.Prelude.{◌||◌, Option, Some, None, option_map, slice_get, sum_by}
use Rattle.std.specs.List.{AllByRecursion}
use Rattle.std.specs.Ordering.{nat_cmp}
use Rattle.dg_values.specs.Ascending.{ascending, has}
use Rattle.dg_sets.proofs.MadeOrders.{nat_order}
use Rattle.dg_sets.proofs.Sets.{from_each, has_joined}
use Rattle.dg_funcs.proofs.PassLaws.{or_true}
use Rattle.dg_graph.specs.declared.change.Triple.{Triple}
use Rattle.dg_check.specs.declared.vars.Variable.{Variable}
use Rattle.dg_tree.specs.declared.tree.Tree.{Tree}
use Rattle.dg_tree.specs.Texts.{tree_text, field_text}
use Rattle.dg_level.specs.declared.looped.Fetched.{Fetched}
use Rattle.dg_level.specs.declared.looped.Lists.{Lists}
use Rattle.dg_level.specs.Rows.{total, row_text, with_fields}
use Rattle.dg_level.specs.Shown.{under, node_of}
use Rattle.dg_level.specs.Columns.{FieldsOf, TreesOf, shown_by}
use Rattle.dg_level.specs.Looping.{PieceOf, Leading, piece_from, piece_fields, fields_by, level_fields, nodes_in, lists_over, lists_as, IsShort, IsFetched, AreFetched, nodes_of_lists, nodes_fetched, AreBelow}
use Rattle.dg_level.specs.Unfolding.{Piece, own, edge, edge_trees}
use Rattle.dg_level.proofs.RowLaws.{total_first, total_joined, longer_field, fields_within, fields_more, length_flat, once, all_within, columns_within}
use Rattle.dg_level.proofs.ShownLaws.{at_place as at_list, rows_shown}
use Rattle.dg_level.proofs.WritingLaws.{nothing, shown_more, front_within}
use Rattle.dg_level.proofs.ListLaws.{ascending_has}
use Rattle.dg_level.proofs.LoopLaws.{back_of}

-- nothing at any node
abbrev pub nowhere : PieceOf
nowhere n = own []

-- ---- what was fetched for the field at a place

module _ (graph : List Triple) (vars : List Variable) (nodes : List ℕ) where
  pub as_many : (all : List Fetched) (pieces : List PieceOf) → AreFetched graph vars nodes all pieces → length all ≡ length pieces
  as_many [] [] are = refl
  as_many [] (piece ∷ pieces) are = absurd are
  as_many (fetched ∷ all) [] are = absurd are
  as_many (fetched ∷ all) (piece ∷ pieces) are = ap suc (as_many all pieces are.1)

  at_place : (all : List Fetched) (pieces : List PieceOf) (i : ℕ) (d : Fetched) → AreFetched graph vars nodes all pieces → i < length all → IsFetched graph vars nodes (get_or all i d) (get_or pieces i nowhere)
  at_place [] pieces i d are lt = absurd (omega (arith, lt))
  at_place (fetched ∷ all) [] i d are lt = absurd are
  at_place (fetched ∷ all) (piece ∷ pieces) zero d are lt = are.0
  at_place (fetched ∷ all) (piece ∷ pieces) (suc i) d are lt = at_place all pieces i d are.1 (omega (arith, lt))

  pub fetched_at : (all : List Fetched) (pieces : List PieceOf) (i : ℕ) (fetched : Fetched) → AreFetched graph vars nodes all pieces → i < length all → fetched ≡ get_or all i fetched → IsFetched graph vars nodes fetched (get_or pieces i nowhere)
  fetched_at all pieces i fetched are lt is = subst (λ f. IsFetched graph vars nodes f (get_or pieces i nowhere)) (sym is) (at_place all pieces i fetched are lt)

  pub fetched_more : (all : List Fetched) (pieces : List PieceOf) (fetched : Fetched) (piece : PieceOf) → AreFetched graph vars nodes all pieces → IsFetched graph vars nodes fetched piece → AreFetched graph vars nodes (all ++ fetched ∷ []) (pieces ++ piece ∷ [])
  fetched_more [] [] fetched piece are is = (is, tt)
  fetched_more [] (p ∷ pieces) fetched piece are is = absurd are
  fetched_more (f ∷ all) [] fetched piece are is = absurd are
  fetched_more (f ∷ all) (p ∷ pieces) fetched piece are is = (are.0, fetched_more all pieces fetched piece are.1 is)

-- a fact of all is one of that at a place
pub one_of : {X : Type 0} (P : X → Type 0) (xs : List X) (i : ℕ) (d : X) → AllByRecursion P xs → i < length xs → P (get_or xs i d)
one_of P [] i d all lt = absurd (omega (arith, lt))
one_of P (x ∷ xs) zero d all lt = all.0
one_of P (x ∷ xs) (suc i) d all lt = one_of P xs i d all.1 (omega (arith, lt))

-- ---- a row

module _ (at : FieldsOf) where
  same_length : (pieces : List PieceOf) → length (map (fields_by at) pieces) ≡ length pieces
  same_length [] = refl
  same_length (piece ∷ pieces) = ap suc (same_length pieces)

  field_at : (pieces : List PieceOf) (i n : ℕ) → i < length pieces → get_or (map (fields_by at) pieces) i nothing n ≡ piece_fields at (get_or pieces i nowhere n)
  field_at [] i n lt = absurd (omega (arith, lt))
  field_at (piece ∷ pieces) zero n lt = refl
  field_at (piece ∷ pieces) (suc i) n lt = field_at pieces i n (omega (arith, lt))

  module _ (pieces : List PieceOf) (i n : ℕ) (lt : i < length pieces) (begun : List ℕ) (so : begun ≡ row_text (shown_by (take i (map (fields_by at) pieces)) n)) where
    -- with one field more
    pub field_more : with_fields begun (map field_text (piece_fields at (get_or pieces i nowhere n))) ≡ row_text (shown_by (take (i + 1) (map (fields_by at) pieces)) n)
    field_more =
        let back = sym (field_at pieces i n lt) in
        (λ j. with_fields (so j) (map field_text (back j)))
        ∙ fields_more (shown_by (take i (map (fields_by at) pieces)) n) (get_or (map (fields_by at) pieces) i nothing n)
        ∙ ap row_text (sym (shown_more (map (fields_by at) pieces) i n (omega (arith, lt, same_length pieces))))

    -- what is too large with it is too large as a whole
    pub field_passes : (rows : List (List ℕ)) (limit : ℕ) → limit < total rows + length (with_fields begun (map field_text (piece_fields at (get_or pieces i nowhere n)))) → limit < total (rows ++ row_text (level_fields pieces at n) ∷ [])
    field_passes rows limit above =
        omega (
          arith,
          above,
          ap length field_more,
          front_within (map (fields_by at) pieces) (i + 1) n,
          total_joined rows (row_text (shown_by (map (fields_by at) pieces) n) ∷ []),
          total_first (row_text (shown_by (map (fields_by at) pieces) n)) [],
        )

  -- all fields are there at the end
  pub all_past : (pieces : List PieceOf) (i : ℕ) → length pieces ≤ i → length (map (fields_by at) pieces) ≤ i
  all_past pieces i past = omega (arith, past, same_length pieces)

-- ---- the nodes of a list are of the level below

module _ (graph : List Triple) (vars : List Variable) (nodes : List ℕ) where
  in_lists : (found : Option Lists) (leads : Leading) (name : List ℕ) (shown : TreesOf) (place node u : ℕ) → option_map lists_as found ≡ option_map (lists_over nodes) leads → slice_get nodes place ≡ Some node
      → has nat_cmp (nodes_in (piece_from name shown leads node)) u ≡ true → has nat_cmp (nodes_of_lists found) u ≡ true
  in_lists None None name shown place node u e at h = absurd (true≢false (sym h))
  in_lists None (Some ls) name shown place node u e at h = absurd (cc)
  in_lists (Some lists) None name shown place node u e at h = absurd (cc)
  in_lists (Some lists) (Some ls) name shown place node u e at h =
      ap (λ xs. has nat_cmp (flat_map (λ (l : List ℕ). l) xs) u) (ap back_of e)
      ∙ ap (λ xs. has nat_cmp xs u) (flat_map-map (λ (l : List ℕ). l) ls.1 nodes)
      ∙ at_list ls.1 nodes place node u at h

  or_left : (a b : Bool) → a ≡ true → (a || b) ≡ true
  or_left true b e = refl
  or_left false b e = absurd (true≢false (sym e))

  below_each : (level : List ℕ) (place node : ℕ) → slice_get nodes place ≡ Some node → (all : List Fetched) (pieces : List PieceOf) → AreFetched graph vars nodes all pieces
      → ((u : ℕ) → has nat_cmp (nodes_fetched all) u ≡ true → has nat_cmp level u ≡ true) → AreBelow level pieces node
  below_each level place node at [] [] are holds = tt
  below_each level place node at [] (piece ∷ pieces) are holds = absurd are
  below_each level place node at (fetched ∷ all) [] are holds = absurd are
  below_each level place node at (fetched ∷ all) (piece ∷ pieces) are holds =
      let first = are.0 in (
        from_each nat_cmp nat_order (λ u. has nat_cmp level u ≡ true) (nodes_in (piece node))
            (λ u h. holds u (has_joined nat_cmp nat_order (nodes_of_lists fetched.lists) (nodes_fetched all) u ∙ or_left (has nat_cmp (nodes_of_lists fetched.lists) u) (has nat_cmp (nodes_fetched all) u)
            (in_lists fetched.lists first.leads first.name first.shown place node u first.lists_are at (ap (λ p. has nat_cmp (nodes_in p) u) (sym (first.piece_is node)) ∙ h)))),
        below_each level place node at all pieces are.1 (λ u h. holds u (has_joined nat_cmp nat_order (nodes_of_lists fetched.lists) (nodes_fetched all) u ∙ or_true (has nat_cmp (nodes_of_lists fetched.lists) u) (has nat_cmp (nodes_fetched all) u) h)),
      )

  pub below_all : (all : List Fetched) (pieces : List PieceOf) (level : List ℕ) (place node : ℕ) → AreFetched graph vars nodes all pieces → level ≡ ascending nat_cmp (nodes_fetched all) → slice_get nodes place ≡ Some node → AreBelow level pieces node
  below_all all pieces level place node are is at = below_each level place node at all pieces are (λ u h. ap (λ l. has nat_cmp l u) is ∙ (ascending_has (nodes_fetched all) u ∙ h))

  -- ---- the level below has no more bytes than the rows above it

  -- the nodes that were fetched, by the pieces
  lists_nodes : (found : Option Lists) (leads : Leading) (name : List ℕ) (shown : TreesOf) → option_map lists_as found ≡ option_map (lists_over nodes) leads → nodes_of_lists found ≡ flat_map (λ n. nodes_in (piece_from name shown leads n)) nodes
  lists_nodes None None name shown e = sym (none nodes)
    where
      none : (ns : List ℕ) → flat_map (λ (n : ℕ). nodes_in (own (map (under name) (shown n)))) ns ≡ []
      none [] = refl
      none (n ∷ ns) = none ns
  lists_nodes None (Some ls) name shown e = absurd (cc)
  lists_nodes (Some lists) None name shown e = absurd (cc)
  lists_nodes (Some lists) (Some ls) name shown e = ap (λ xs. flat_map (λ (l : List ℕ). l) xs) (ap back_of e) ∙ flat_map-map (λ (l : List ℕ). l) ls.1 nodes

  pub nodes_are : (all : List Fetched) (pieces : List PieceOf) → AreFetched graph vars nodes all pieces → nodes_fetched all ≡ flat_map (λ (piece : PieceOf). flat_map (λ n. nodes_in (piece n)) nodes) pieces
  nodes_are [] [] are = refl
  nodes_are [] (piece ∷ pieces) are = absurd are
  nodes_are (fetched ∷ all) [] are = absurd are
  nodes_are (fetched ∷ all) (piece ∷ pieces) are =
      let first = are.0 in
      let here : nodes_of_lists fetched.lists ≡ flat_map (λ n. nodes_in (piece n)) nodes =
      lists_nodes fetched.lists first.leads first.name first.shown first.lists_are ∙ (λ j. flat_map (λ n. nodes_in (sym (first.piece_is n) j)) nodes) in
      λ j. here j ++ nodes_are all pieces are.1 j

  -- a single edge leads to one node at most
  abbrev pub OneAtMost : Piece → Type 0
  OneAtMost (own fields) = Unit {0}
  OneAtMost (edge key single list) = single ≡ true → length list ≤ 1

  short_piece : (name : List ℕ) (shown : TreesOf) (leads : Leading) (n : ℕ) → IsShort leads → OneAtMost (piece_from name shown leads n)
  short_piece name shown None n short = tt
  short_piece name shown (Some ls) n short = λ one. short one n

  module _ (at : FieldsOf) where
    abbrev row : ℕ → List ℕ
    row n = row_text (at n)

    under_longer : (key : List ℕ) (shown : List Tree) → length (flat_map tree_text shown) ≤ total (map field_text (map (under key) shown))
    under_longer key [] = omega arith
    under_longer key (tree ∷ shown) =
        omega (arith, length-append (tree_text tree) (flat_map tree_text shown), under_longer key shown, longer_field (under key tree), total_first (field_text (under key tree)) (map field_text (map (under key) shown)))

    within_piece : (piece : Piece) → OneAtMost piece → total (map row (nodes_in piece)) ≤ total (map field_text (piece_fields at piece))
    within_piece (own fields) short = omega arith
    within_piece (edge key true list) short = omega (arith, rows_shown true [] at list short, under_longer key (edge_trees true (flat_map (λ n. node_of (at n)) list)))
    within_piece (edge key false list) short = omega (arith, rows_shown false [] at list (λ e. absurd (true≢false (sym e))), under_longer key (edge_trees false (flat_map (λ n. node_of (at n)) list)))

    -- the rows of the nodes of a list, one after another
    abbrev held : PieceOf → ℕ → List ℕ
    held piece n = flat_map (λ (t : List ℕ). t) (map row (nodes_in (piece n)))

    held_by_row : (n : ℕ) (all : List Fetched) (pieces : List PieceOf) → AreFetched graph vars nodes all pieces → total (map (λ (piece : PieceOf). held piece n) pieces) ≤ total (map field_text (level_fields pieces at n))
    held_by_row n [] [] are = omega arith
    held_by_row n [] (piece ∷ pieces) are = absurd are
    held_by_row n (fetched ∷ all) [] are = absurd are
    held_by_row n (fetched ∷ all) (piece ∷ pieces) are =
        let first = are.0 in
        let short = subst OneAtMost (sym (first.piece_is n)) (short_piece first.name first.shown first.leads n first.short) in
        omega (
          arith,
          total_first (held piece n) (map (λ (p : PieceOf). held p n) pieces),
          length_flat (map row (nodes_in (piece n))),
          within_piece (piece n) short,
          ap total (map-append field_text (piece_fields at (piece n)) (level_fields pieces at n)),
          total_joined (map field_text (piece_fields at (piece n))) (map field_text (level_fields pieces at n)),
          held_by_row n all pieces are.1,
        )

    nodes_held : (pieces : List PieceOf) → total (map row (flat_map (λ (piece : PieceOf). flat_map (λ n. nodes_in (piece n)) nodes) pieces)) ≤ sum_by (λ piece. total (map (held piece) nodes)) pieces
    nodes_held [] = omega arith
    nodes_held (piece ∷ pieces) =
        let here = flat_map (λ n. nodes_in (piece n)) nodes in
        let rest = flat_map (λ (p : PieceOf). flat_map (λ n. nodes_in (p n)) nodes) pieces in
        omega (
          arith,
          ap total (map-append row here rest),
          total_joined (map row here) (map row rest),
          all_within row (λ n. nodes_in (piece n)) (held piece) (λ n. omega (arith, length_flat (map row (nodes_in (piece n))))) nodes,
          nodes_held pieces,
          sum_by-cons (λ (p : PieceOf). total (map (held p) nodes)) piece pieces,
        )

    pub level_held : (all : List Fetched) (pieces : List PieceOf) → AreFetched graph vars nodes all pieces → total (map row (ascending nat_cmp (nodes_fetched all))) ≤ total (map (λ n. row_text (level_fields pieces at n)) nodes)
    level_held all pieces are =
        omega (
          arith,
          once row (nodes_fetched all),
          ap (λ ns. total (map row ns)) (nodes_are all pieces are),
          nodes_held pieces,
          columns_within held pieces (λ n. row_text (level_fields pieces at n)) nodes (λ n. omega (arith, held_by_row n all pieces are, fields_within (level_fields pieces at n))),
        )
