-- What is fetched for fields of a recursion.
use Rattle.std.proofs.Common.{◌≡◌, ℕ, Bool, true, false, List, [], ◌++◌, map, take, refl, sym, ap, ◌∙◌, true≢false}
use Rattle.std.specs.Prelude.{Option, Some, None, option_map}
use Rattle.dg_schema.specs.declared.definition.PredDef.{PredDef}
use Rattle.dg_schema.specs.Definitions.{definition_of}
use Rattle.dg_graph.specs.declared.change.Triple.{Triple}
use Rattle.dg_parse.specs.declared.query.QArg.{QArg}
use Rattle.dg_parse.specs.declared.query.QDir.{QDir}
use Rattle.dg_parse.specs.declared.query.QEdge.{QEdge}
use Rattle.dg_parse.specs.declared.query.QField.{QField}
use Rattle.dg_parse.specs.declared.query.QItem.{QItem}
use Rattle.dg_parse.specs.declared.query.QItem.TheOpen.{QItem-F}
use Rattle.dg_parse.specs.declared.query.QItem.TheVariants as items
use Rattle.dg_parse.specs.declared.query.QItem.TheViews.{out-QItem}
use Rattle.dg_check.specs.declared.parts.Field.{Field as Kept}
use Rattle.dg_check.specs.declared.parts.Filter.{Filter}
use Rattle.dg_check.specs.declared.parts.Item.{Item}
use Rattle.dg_check.specs.declared.parts.Item.TheOpen.{Item-F}
use Rattle.dg_check.specs.declared.parts.Item.TheVariants as kept
use Rattle.dg_check.specs.declared.parts.Item.TheViews.{out-Item}
use Rattle.dg_check.specs.declared.parts.OrderKey.{OrderKey}
use Rattle.dg_check.specs.declared.vars.Variable.{Variable}
use Rattle.dg_tree.specs.Texts.{key_text, field_text}
use Rattle.dg_level.specs.declared.looped.Lists.{Lists}
use Rattle.dg_level.specs.declared.sorts.Sort.{Sort}
use Rattle.dg_level.specs.declared.sorts.Sort.TheVariants as sorts
use Rattle.dg_level.specs.Shown.{sort_of}
use Rattle.dg_level.specs.Planned.{value_kept, is_single, planned_list, list_by}
use Rattle.dg_level.specs.Columns.{FieldsOf}
use Rattle.dg_level.specs.Levels.{leads_to_nodes, bare_trees}
use Rattle.dg_level.specs.Rows.{row_text, objects_of, array_of}
use Rattle.dg_level.specs.Recursions.{single_of}
use Rattle.dg_level.specs.Looping.{own_by, own_trees, Leading, leads_as, leads_kept, leads_by, leads_of, piece_fields, lists_over, lists_as, IsShort}
use Rattle.dg_level.specs.Unfolding.{edge}
use Rattle.dg_level.proofs.ShownLaws.{cut_short, in_array, by_itself}

module _ (schema : List PredDef) (graph : List Triple) (vars : List Variable) where
  -- ---- what nodes show of themselves

  pub own_val : (q : QItem) (k : Item) (x : List ℕ) → q ≡ items.Val x → own_trees schema graph vars q k ≡ (λ (n : ℕ). value_kept vars n (out-Item k))
  own_val q k x is = ap (λ layer. own_by schema graph vars layer k) (ap out-QItem is ∙ items.outs-Val x)

  pub own_edge : (q : QItem) (k : Item) (e : QEdge) (args : List QArg) (dirs : List QDir) (braces : Option (List QField)) → q ≡ items.Edge e args dirs braces → own_trees schema graph vars q k ≡ bare_trees schema graph e (out-Item k)
  own_edge q k e args dirs braces is = ap (λ layer. own_by schema graph vars layer k) (ap out-QItem is ∙ items.outs-Edge e args dirs braces)

  -- ---- where a field leads

  single_is : (sort : Sort) → leads_to_nodes sort ≡ true → single_of sort ≡ Some (is_single sort)
  single_is sorts.Nothing e = absurd (true≢false (sym e))
  single_is sorts.Values e = absurd (true≢false (sym e))
  single_is sorts.Node e = refl
  single_is sorts.Nodes e = refl

  -- an edge to nodes
  pub leads_edge : (further : Bool) (q : QItem) (k : Item) (e : QEdge) (args : List QArg) (dirs : List QDir) (braces : Option (List QField)) (orders : List OrderKey) (filters : List Filter) (inner : List Kept)
      → further ≡ true → q ≡ items.Edge e args dirs braces → k ≡ kept.Edge orders filters inner → leads_to_nodes (sort_of (definition_of schema e.pred) e.back) ≡ true
      → leads_of further schema graph vars q k ≡ Some (is_single (sort_of (definition_of schema e.pred) e.back), list_by graph vars e args (sort_of (definition_of schema e.pred) e.back) orders filters)
  leads_edge further q k e args dirs braces orders filters inner on is has some =
      ap (λ f. leads_of f schema graph vars q k) on
      ∙ ap (λ layer. leads_by schema graph vars layer k) (ap out-QItem is ∙ items.outs-Edge e args dirs braces)
      ∙ ap (λ layer. leads_kept graph vars e args (sort_of (definition_of schema e.pred) e.back) layer) (ap out-Item has ∙ kept.outs-Edge orders filters inner)
      ∙ ap (λ single. leads_as single (list_by graph vars e args (sort_of (definition_of schema e.pred) e.back) orders filters)) (single_is (sort_of (definition_of schema e.pred) e.back) some)

  -- a single edge leads to one node at most
  short_as : (e : QEdge) (args : List QArg) (sort : Sort) (orders : List OrderKey) (filters : List Filter) → IsShort (leads_as (single_of sort) (list_by graph vars e args sort orders filters))
  short_as e args sorts.Nothing orders filters = tt
  short_as e args sorts.Values orders filters = tt
  short_as e args sorts.Node orders filters = λ one n. cut_short true (planned_list graph vars e args orders filters n) refl
  short_as e args sorts.Nodes orders filters = λ one n. absurd (true≢false (sym one))

  short_kept : {A B : Type 0} (e : QEdge) (args : List QArg) (sort : Sort) (layer : Item-F A B) → IsShort (leads_kept graph vars e args sort layer)
  short_kept e args sort Item-F.Plain = tt
  short_kept e args sort (Item-F.Val place) = tt
  short_kept e args sort (Item-F.Edge orders filters inner) = short_as e args sort orders filters

  short_by : {A B : Type 0} (layer : QItem-F A B) (k : Item) → IsShort (leads_by schema graph vars layer k)
  short_by QItem-F.Uid k = tt
  short_by QItem-F.CountUid k = tt
  short_by (QItem-F.Count e) k = tt
  short_by (QItem-F.Val x) k = tt
  short_by (QItem-F.Agg op x) k = tt
  short_by (QItem-F.Edge e args dirs braces) k = short_kept e args (sort_of (definition_of schema e.pred) e.back) (out-Item k)

  pub short_leads : (further : Bool) (q : QItem) (k : Item) → IsShort (leads_of further schema graph vars q k)
  short_leads true q k = short_by (out-QItem q) k
  short_leads false q k = tt

-- ---- what was fetched, and where it leads

pub no_leads : (nodes : List ℕ) (leads : Leading) → option_map lists_as None ≡ option_map (lists_over nodes) leads → leads ≡ None
no_leads nodes None e = refl
no_leads nodes (Some ls) e = absurd (cc)

abbrev pub front_of : Option (Bool × List (List ℕ)) → Bool
front_of None = false
front_of (Some p) = p.0

abbrev pub back_of : Option (Bool × List (List ℕ)) → List (List ℕ)
back_of None = []
back_of (Some p) = p.1

pub some_leads : (nodes : List ℕ) (lists : Lists) (leads : Leading) → option_map lists_as (Some lists) ≡ option_map (lists_over nodes) leads → (ls : Bool × (ℕ → List ℕ)) × (leads ≡ Some ls) × (lists.single ≡ ls.0) × (lists.lists.items ≡ map ls.1 nodes)
some_leads nodes lists None e = absurd (cc)
some_leads nodes lists (Some ls) e = (ls, refl, ap front_of e, ap back_of e)

-- ---- the texts of a list

module _ (name : List ℕ) (at : FieldsOf) (list : List ℕ) where
  -- by itself
  pub one_text : (single : Bool) → single ≡ true → map field_text (piece_fields at (edge name single list)) ≡ map (λ object. key_text name ++ object) (take 1 (objects_of (map (λ n. row_text (at n)) list)))
  one_text single alone = ap (λ b. map field_text (piece_fields at (edge name b list))) alone ∙ by_itself name [] at list true refl refl

  -- as an array
  pub array_text : (single : Bool) → single ≡ false → map field_text (piece_fields at (edge name single list)) ≡ map (λ array. key_text name ++ array) (array_of [] (map (λ n. row_text (at n)) list))
  array_text single many = ap (λ b. map field_text (piece_fields at (edge name b list))) many ∙ in_array name [] at list false (λ e none. true≢false (sym e))
