-- Unfolding where nodes come again, one level after another.
use Rattle.std.proofs.Common.{◌≡◌, ℕ, zero, suc, ◌-◌, ◌<◌, Bool, true, false, List, [], ◌∷◌, ◌++◌, map, flat_map, refl, sym, ap, ◌∙◌, arith}
use Rattle.std.proofs.lemmas.List.Folds.{flat_map-map}
use Rattle.std.specs.Prelude.{Some, None}
use Rattle.dg_schema.specs.declared.definition.PredDef.{PredDef}
use Rattle.dg_schema.specs.Definitions.{definition_of}
use Rattle.dg_graph.specs.declared.change.Triple.{Triple}
use Rattle.dg_graph.specs.Graphs.{objects}
use Rattle.dg_parse.specs.declared.query.QArg.{QArg}
use Rattle.dg_parse.specs.declared.query.QEdge.{QEdge}
use Rattle.dg_parse.specs.declared.query.QField.{QField}
use Rattle.dg_parse.specs.declared.query.QItem.TheOpen.{QItem-F}
use Rattle.dg_parse.specs.declared.query.QItem.TheViews.{out-QItem}
use Rattle.dg_parse.specs.Keys.{key_of}
use Rattle.dg_check.specs.declared.parts.Field.{Field as Kept}
use Rattle.dg_check.specs.declared.parts.Item.{Item}
use Rattle.dg_check.specs.declared.parts.Item.TheOpen.{Item-F}
use Rattle.dg_check.specs.declared.parts.Item.TheViews.{out-Item}
use Rattle.dg_check.specs.declared.vars.Variable.{Variable}
use Rattle.dg_tree.specs.declared.tree.Tree.{Tree}
use Rattle.dg_level.specs.declared.looped.Fetched.{Fetched}
use Rattle.dg_level.specs.declared.sorts.Sort.{Sort}
use Rattle.dg_level.specs.declared.sorts.Sort.TheVariants as sorts
use Rattle.dg_level.specs.Answers.{shown}
use Rattle.dg_level.specs.Shown.{sort_of, under, node_of}
use Rattle.dg_level.specs.Planned.{list_by}
use Rattle.dg_level.specs.Columns.{FieldsOf, TreesOf}
use Rattle.dg_level.specs.Levels.{own_shown, bare_trees}
use Rattle.dg_level.specs.Recursions.{single_of}
use Rattle.dg_level.specs.Looping.{PieceOf, Leading, own_by, own_trees, leads_as, leads_kept, leads_by, piece_from, planned_piece, planned_pieces, pieces_by, piece_fields, fields_by, level_fields, nodes_in, AreFetched, nodes_fetched}
use Rattle.dg_level.specs.Unfolding.{Piece, edge_trees, piece_shown, unfolded}
use Rattle.dg_level.proofs.LoopRows.{nodes_are}

-- ---- the path doesn't matter

pub path_free : (pieces : ℕ → List Piece) (left : ℕ) (path other : List ℕ) (node : ℕ) → unfolded pieces true left path node ≡ unfolded pieces true left other node
unfolding unfolded
path_free pieces zero path other node = refl
path_free pieces (suc left) path other node = λ j. flat_map (piece_shown (λ nodes. flat_map (λ n. node_of (path_free pieces left (n ∷ path) (n ∷ other) n j)) nodes)) (pieces node)

module _ (pieces : List PieceOf) where
  -- what is left to be followed from a node
  abbrev pub below : ℕ → FieldsOf
  below left n = unfolded (pieces_by pieces) true left [] n

  one_step : (left n : ℕ) → unfolded (pieces_by pieces) true (suc left) [] n ≡ level_fields pieces (below left) n
  unfolding unfolded
  one_step left n =
      flat_map-map (piece_shown (λ nodes. flat_map (λ m. node_of (unfolded (pieces_by pieces) true left (m ∷ []) m)) nodes)) (λ (piece : PieceOf). piece n) pieces
      ∙ (λ j. flat_map (λ (piece : PieceOf). piece_shown (λ nodes. flat_map (λ m. node_of (path_free (pieces_by pieces) left (m ∷ []) [] m j)) nodes) (piece n)) pieces)
      ∙ sym (flat_map-map (λ (fields : FieldsOf). fields n) (fields_by (below left)) pieces)

  pub step : (left n : ℕ) → 0 < left → unfolded (pieces_by pieces) true left [] n ≡ level_fields pieces (below (left - 1)) n
  step left n above = let e : left ≡ suc (left - 1) = omega (arith, above) in ap (λ l. unfolded (pieces_by pieces) true l [] n) e ∙ one_step (left - 1) n

-- ---- where no edge is followed any more

module _ (schema : List PredDef) (graph : List Triple) (vars : List Variable) where
  -- what leads to nodes shows nothing of a node itself
  none_as : (sort : Sort) (list : ℕ → List ℕ) (ls : Bool × (ℕ → List ℕ)) (values : List Tree) → leads_as (single_of sort) list ≡ Some ls → own_shown sort values ≡ []
  none_as sorts.Nothing list ls values e = absurd (cc)
  none_as sorts.Values list ls values e = absurd (cc)
  none_as sorts.Node list ls values e = refl
  none_as sorts.Nodes list ls values e = refl

  none_kept : {A : Type 0} (e : QEdge) (args : List QArg) (layer : Item-F A Kept) (ls : Bool × (ℕ → List ℕ)) (n : ℕ) → leads_kept graph vars e args (sort_of (definition_of schema e.pred) e.back) layer ≡ Some ls → bare_trees schema graph e layer n ≡ []
  none_kept e args Item-F.Plain ls n is = refl
  none_kept e args (Item-F.Val place) ls n is = refl
  none_kept e args (Item-F.Edge orders filters inner) ls n is =
      none_as (sort_of (definition_of schema e.pred) e.back) (list_by graph vars e args (sort_of (definition_of schema e.pred) e.back) orders filters) ls (shown (definition_of schema e.pred) (objects graph e.pred n)) is

  none_by : {A B : Type 0} (layer : QItem-F A B) (k : Item) (ls : Bool × (ℕ → List ℕ)) (n : ℕ) → leads_by schema graph vars layer k ≡ Some ls → own_by schema graph vars layer k n ≡ []
  none_by QItem-F.Uid k ls n is = absurd (cc)
  none_by QItem-F.CountUid k ls n is = absurd (cc)
  none_by (QItem-F.Count e) k ls n is = absurd (cc)
  none_by (QItem-F.Val x) k ls n is = absurd (cc)
  none_by (QItem-F.Agg op x) k ls n is = absurd (cc)
  none_by (QItem-F.Edge e args list braces) k ls n is = none_kept e args (out-Item k) ls n is

  empty_edge : (key : List ℕ) (single : Bool) → map (under key) (edge_trees single []) ≡ []
  empty_edge key true = refl
  empty_edge key false = refl

  last_by : (key : List ℕ) (shown : TreesOf) (leads : Leading) (n : ℕ) → ((ls : Bool × (ℕ → List ℕ)) → leads ≡ Some ls → shown n ≡ []) → piece_shown (λ nodes. []) (piece_from key shown leads n) ≡ map (under key) (shown n)
  last_by key shown None n none = refl
  last_by key shown (Some ls) n none = empty_edge key ls.0 ∙ sym (ap (map (under key)) (none ls refl))

  last_field : (f : QField) (k : Kept) (n : ℕ) → piece_shown (λ nodes. []) (planned_piece true schema graph vars f k n) ≡ piece_fields (λ m. []) (planned_piece false schema graph vars f k n)
  last_field f k n = last_by (key_of f) (own_trees schema graph vars f.item k.item) (leads_by schema graph vars (out-QItem f.item) k.item) n (λ ls is. none_by (out-QItem f.item) k.item ls n is)

  last_fields : (fields : List QField) (kept : List Kept) (n : ℕ) → flat_map (piece_shown (λ nodes. [])) (pieces_by (planned_pieces true schema graph vars fields kept) n) ≡ level_fields (planned_pieces false schema graph vars fields kept) (λ m. []) n
  last_fields [] kept n = refl
  last_fields (f ∷ fields) [] n = refl
  last_fields (f ∷ fields) (k ∷ kept) n = λ j. last_field f k n j ++ last_fields fields kept n j

  pub last_level : (fields : List QField) (kept : List Kept) (left n : ℕ) → left ≡ 0 → unfolded (pieces_by (planned_pieces true schema graph vars fields kept)) true left [] n ≡ level_fields (planned_pieces false schema graph vars fields kept) (λ m. []) n
  unfolding unfolded
  last_level fields kept left n none = ap (λ l. unfolded (pieces_by (planned_pieces true schema graph vars fields kept)) true l [] n) none ∙ last_fields fields kept n

  -- then nothing is fetched
  no_nodes : (nodes : List ℕ) (f : QField) (k : Kept) → flat_map (λ n. nodes_in (planned_piece false schema graph vars f k n)) nodes ≡ []
  no_nodes [] f k = refl
  no_nodes (n ∷ nodes) f k = no_nodes nodes f k

  none_lead : (nodes : List ℕ) (fields : List QField) (kept : List Kept) → flat_map (λ (piece : PieceOf). flat_map (λ n. nodes_in (piece n)) nodes) (planned_pieces false schema graph vars fields kept) ≡ []
  none_lead nodes [] kept = refl
  none_lead nodes (f ∷ fields) [] = refl
  none_lead nodes (f ∷ fields) (k ∷ kept) = λ j. no_nodes nodes f k j ++ none_lead nodes fields kept j

  pub none_fetched : (nodes : List ℕ) (all : List Fetched) (fields : List QField) (kept : List Kept) → AreFetched graph vars nodes all (planned_pieces false schema graph vars fields kept) → nodes_fetched all ≡ []
  none_fetched nodes all fields kept are = nodes_are graph vars nodes all (planned_pieces false schema graph vars fields kept) are ∙ none_lead nodes fields kept
