-- What is unfolded by the plan is what is unfolded by the text.
use Rattle.std.proofs.Common.{◌≡◌, ℕ, ◌-◌, true, false, List, [], ◌∷◌, map, refl, sym, ap, ◌∙◌}
use Rattle.std.specs.Prelude.{option_to_list}
use Rattle.dg_schema.specs.declared.definition.PredDef.{PredDef}
use Rattle.dg_schema.specs.Definitions.{definition_of}
use Rattle.dg_graph.specs.declared.change.Triple.{Triple}
use Rattle.dg_graph.specs.Graphs.{objects, IsLawful}
use Rattle.dg_parse.specs.declared.query.QField.{QField}
use Rattle.dg_parse.specs.declared.query.QItem.{QItem}
use Rattle.dg_parse.specs.declared.query.QItem.TheVariants as items
use Rattle.dg_parse.specs.declared.query.QItem.TheViews.{out-QItem}
use Rattle.dg_parse.specs.Keys.{key_of}
use Rattle.dg_check.specs.declared.parts.Field.{Field as Kept}
use Rattle.dg_check.specs.declared.parts.Item.{Item}
use Rattle.dg_check.specs.declared.parts.Item.TheVariants as kept
use Rattle.dg_check.specs.declared.vars.Variable.{Variable}
use Rattle.dg_check.specs.Parts.{in_braces, IsItemOf, uid, count_uid, count, val, agg, edge, AreFieldsOf, no_field, more_fields}
use Rattle.dg_check.specs.Variables.{Definition}
use Rattle.dg_check.specs.Vars.{value_at}
use Rattle.dg_funcs.specs.Laws.{AreOfKind, FiltersMeanTheirTexts}
use Rattle.dg_tree.specs.declared.tree.Tree.{Tree}
use Rattle.dg_level.specs.declared.sorts.Sort.{Sort}
use Rattle.dg_level.specs.declared.sorts.Sort.TheVariants as sorts
use Rattle.dg_level.specs.Answers.{value_tree, shown}
use Rattle.dg_level.specs.Lists.{children}
use Rattle.dg_level.specs.Shown.{sort_of, under, cascades, ShownItem, fields_at}
use Rattle.dg_level.specs.Planned.{value_kept, list_by}
use Rattle.dg_level.specs.Keys.{all_count_keys}
use Rattle.dg_level.specs.Levels.{leads_to_nodes, own_shown, bare_trees}
use Rattle.dg_level.specs.Recursions.{single_of, piece_of, item_piece, piece_at, pieces_at, recursed_at}
use Rattle.dg_level.specs.Looping.{own_by, own_trees, leads_as, leads_kept, leads_by, piece_from, planned_piece, planned_pieces, pieces_by}
use Rattle.dg_level.specs.Unfolding.{Piece, unfolded}
use Rattle.dg_level.specs.Unfolding as unfolding_of
use Rattle.dg_level.proofs.EdgeLaws.{own_is}
use Rattle.dg_level.proofs.MeaningLaws.{cut_alike}
use Rattle.dg_level.proofs.TextLaws.{shown_item, said_uid, said_count_uid, said_count, said_val, said_agg, text_field, so_left, text_edge}
use Rattle.dg_level.proofs.LoopUnfold.{path_free}

-- an edge, by what it leads to
edge_alike : (sort : Sort) (key : List ℕ) (values : ℕ → List Tree) (shows : List Tree) (list : ℕ → List ℕ) (nodes : List ℕ) (n : ℕ) → list n ≡ nodes → (leads_to_nodes sort ≡ false → shows ≡ own_shown sort (values n))
    → piece_from key (λ m. own_shown sort (values m)) (leads_as (single_of sort) list) n ≡ piece_of (map (under key) shows) key (single_of sort) nodes
edge_alike sorts.Nothing key values shows list nodes n is shown = ap (λ ts. unfolding_of.own (map (under key) ts)) (sym (shown refl))
edge_alike sorts.Values key values shows list nodes n is shown = ap (λ ts. unfolding_of.own (map (under key) ts)) (sym (shown refl))
edge_alike sorts.Node key values shows list nodes n is shown = ap (λ ns. unfolding_of.edge key true ns) is
edge_alike sorts.Nodes key values shows list nodes n is shown = ap (λ ns. unfolding_of.edge key false ns) is

module _ (schema : List PredDef) (ds : List Definition) (graph : List Triple) (vars : List Variable) (lawful : IsLawful schema graph) (of_kind : AreOfKind ds vars) (filters_mean : FiltersMeanTheirTexts) where
  abbrev by_plan : List ℕ → QItem → Item → ℕ → Piece
  by_plan key q k n = piece_from key (own_trees schema graph vars q k) (leads_by schema graph vars (out-QItem q) k) n

  abbrev by_text : List ℕ → QItem → ℕ → Piece
  by_text key q n = item_piece schema graph ds vars (map (under key) ((shown_item schema graph ds vars q).at false n)) key (out-QItem q) n

  -- an item is the same by the plan and by the text
  item_alike : (key : List ℕ) (q : QItem) (k : Item) → IsItemOf schema ds q k → (n : ℕ) → by_plan key q k n ≡ by_text key q n
  item_alike key q k uid n =
      (λ i. piece_from key (own_by schema graph vars (items.outs-Uid i) kept.Plain) (leads_by schema graph vars (items.outs-Uid i) kept.Plain) n)
      ∙ ap (λ (p : ShownItem). unfolding_of.own (map (under key) (p.at false n))) (sym (said_uid schema graph ds vars))
      ∙ sym (λ i. item_piece schema graph ds vars (map (under key) ((shown_item schema graph ds vars items.Uid).at false n)) key (items.outs-Uid i) n)
  item_alike key q k count_uid n =
      (λ i. piece_from key (own_by schema graph vars (items.outs-CountUid i) kept.Plain) (leads_by schema graph vars (items.outs-CountUid i) kept.Plain) n)
      ∙ ap (λ (p : ShownItem). unfolding_of.own (map (under key) (p.at false n))) (sym (said_count_uid schema graph ds vars))
      ∙ sym (λ i. item_piece schema graph ds vars (map (under key) ((shown_item schema graph ds vars items.CountUid).at false n)) key (items.outs-CountUid i) n)
  item_alike key q k (count e) n =
      (λ i. piece_from key (own_by schema graph vars (items.outs-Count e i) kept.Plain) (leads_by schema graph vars (items.outs-Count e i) kept.Plain) n)
      ∙ ap (λ (p : ShownItem). unfolding_of.own (map (under key) (p.at false n))) (sym (said_count schema graph ds vars e))
      ∙ sym (λ i. item_piece schema graph ds vars (map (under key) ((shown_item schema graph ds vars (items.Count e)).at false n)) key (items.outs-Count e i) n)
  item_alike key q k (val x place h) n =
      (λ i. piece_from key (own_by schema graph vars (items.outs-Val x i) (kept.Val place)) (leads_by schema graph vars (items.outs-Val x i) (kept.Val place)) n)
      ∙ (λ i. unfolding_of.own (map (under key) (value_kept vars n (kept.outs-Val place i))))
      ∙ ap (λ at. unfolding_of.own (map (under key) (map value_tree (option_to_list (value_at vars at n))))) h.0
      ∙ ap (λ (p : ShownItem). unfolding_of.own (map (under key) (p.at false n))) (sym (said_val schema graph ds vars x))
      ∙ sym (λ i. item_piece schema graph ds vars (map (under key) ((shown_item schema graph ds vars (items.Val x)).at false n)) key (items.outs-Val x i) n)
  item_alike key q k (agg op x place h) n =
      (λ i. piece_from key (own_by schema graph vars (items.outs-Agg op x i) (kept.Val place)) (leads_by schema graph vars (items.outs-Agg op x i) (kept.Val place)) n)
      ∙ ap (λ (p : ShownItem). unfolding_of.own (map (under key) (p.at false n))) (sym (said_agg schema graph ds vars op x))
      ∙ sym (λ i. item_piece schema graph ds vars (map (under key) ((shown_item schema graph ds vars (items.Agg op x)).at false n)) key (items.outs-Agg op x i) n)
  item_alike key q k (edge e args list braces by_keys filters inner keys_are filters_are are) n =
      let sort = sort_of (definition_of schema e.pred) e.back in
      let values = λ (m : ℕ). shown (definition_of schema e.pred) (objects graph e.pred m) in
      let q_is = items.Edge e args list braces in
      let k_is = kept.Edge by_keys filters inner in
      let shows = (shown_item schema graph ds vars q_is).at false n in
      (λ i. piece_from key (own_by schema graph vars (items.outs-Edge e args list braces i) k_is) (leads_by schema graph vars (items.outs-Edge e args list braces i) k_is) n)
      ∙ (λ i. piece_from key (bare_trees schema graph e (kept.outs-Edge by_keys filters inner i)) (leads_kept graph vars e args sort (kept.outs-Edge by_keys filters inner i)) n)
      ∙ edge_alike sort key values shows (list_by graph vars e args sort by_keys filters) (children graph ds vars e args list n) n
      (cut_alike schema ds graph vars lawful of_kind filters_mean e args list by_keys filters keys_are.0 filters_are n)
      (λ none. text_edge schema graph ds vars e args list n false braces ∙ own_is sort (values n) (all_count_keys (in_braces braces)) (fields_at schema graph ds vars (cascades false list) (in_braces braces)) (so_left schema graph ds vars e args list n false (in_braces braces)) none)
      ∙ sym (λ i. item_piece schema graph ds vars (map (under key) shows) key (items.outs-Edge e args list braces i) n)

  pieces_alike : (qs : List QField) (ks : List Kept) → AreFieldsOf schema ds qs ks → (n : ℕ) → pieces_by (planned_pieces true schema graph vars qs ks) n ≡ pieces_at schema graph ds vars qs n
  pieces_alike qs ks no_field n = refl
  pieces_alike qs ks (more_fields q k qs' ks' var is are) n =
      let here : planned_piece true schema graph vars q k n ≡ piece_at schema graph ds vars q n =
      item_alike (key_of q) q.item k.item is n ∙ sym (λ i. item_piece schema graph ds vars (text_field schema graph ds vars q false n i) (key_of q) (out-QItem q.item) n) in
      let rest = pieces_alike qs' ks' are n in
      λ i. here i ∷ rest i

  -- what is unfolded
  pub loops_mean : (depth : ℕ) (qs : List QField) (ks : List Kept) → AreFieldsOf schema ds qs ks → (n : ℕ) → unfolded (pieces_by (planned_pieces true schema graph vars qs ks)) true (depth - 1) [] n ≡ recursed_at schema graph ds vars true depth qs n
  loops_mean depth qs ks are n =
      (λ i. unfolded (λ m. pieces_alike qs ks are m i) true (depth - 1) [] n) ∙ path_free (pieces_at schema graph ds vars qs) (depth - 1) [] (n ∷ []) n

  -- also where no node comes again below itself
  pub walks_mean : (depth : ℕ) (qs : List QField) (ks : List Kept) → AreFieldsOf schema ds qs ks → (n : ℕ) → unfolded (pieces_by (planned_pieces true schema graph vars qs ks)) false (depth - 1) (n ∷ []) n ≡ recursed_at schema graph ds vars false depth qs n
  walks_mean depth qs ks are n = λ i. unfolded (λ m. pieces_alike qs ks are m i) false (depth - 1) (n ∷ []) n
