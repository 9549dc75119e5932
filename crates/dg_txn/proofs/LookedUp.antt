-- What is looked up over pins and own gains is what is looked up in the graph after the own changes.
use Rattle.std.proofs.Common.{◌≡◌, ◌∙◌, sym, ap, subst, refl, ℕ, Bool, true, false, List, [], Option}
use Rattle.std.specs.Prelude.{filter_map, if◌then◌else◌, IfOk, Result, Ok, Err}
use Rattle.std.specs.Ordering.{nat_cmp}
use Rattle.dg_values.specs.Ascending.{Ascends, ascending}
use Rattle.dg_values.specs.declared.kind.Tokenizer.{Tokenizer}
use Rattle.dg_values.specs.declared.value.Value.{Value}
use Rattle.dg_values.specs.declared.value.Posting.{Posting}
use Rattle.dg_values.specs.declared.value.Posting.TheVariants.{Uid}
use Rattle.dg_sets.proofs.MadeOrders.{nat_order}
use Rattle.dg_schema.specs.declared.definition.PredDef.{PredDef}
use Rattle.dg_tokens.specs.declared.tokens.IndexToken.{IndexToken}
use Rattle.dg_graph.specs.declared.change.Change.{Change}
use Rattle.dg_graph.specs.declared.change.Triple.{Triple}
use Rattle.dg_graph.specs.Graphs.{after_changes, IsLawful}
use Rattle.dg_graph.specs.Lookups.{has_reverse, is_indexed_by, has_numbers, subjects_of, subjects_where, has_token, node_in, holders, by_token_range, by_count}
use Rattle.dg_graph.proofs.LookUpLaws.{where_ascend}
use Rattle.dg_graph.proofs.Passing.{ascending_same}
use Rattle.dg_keys.specs.declared.key.Key.TheVariants.{Index, Reverse}
use Rattle.dg_keys.specs.declared.record.Part.{Part}
use Rattle.dg_zero.specs.Listings.{listing, nodes}
use Rattle.dg_edges.proofs.OfferLaws.{lawful_goal}
use Rattle.dg_txn.specs.Own.{seen, AreOwn}
use Rattle.dg_txn.specs.declared.span.Over.{Over}
use Rattle.dg_txn.specs.declared.span.Over.TheVariants.{Subjects, Tokens, Objects, Pointers}
use Rattle.dg_txn.specs.Walks.{AreShown}
use Rattle.dg_txn.proofs.PinLaws.{own_read, own_none, data_listing}
use Rattle.dg_txn.proofs.FoundNodes.{shown_as, only_nodes, reverse_lists, token_lists, holders_found, range_found, objects_found, pointers_found}

-- a list of nodes that ascend, as a set
listed_are : (list : List Posting) (ns : List ℕ) → list ≡ nodes ns → Ascends nat_cmp ns → ascending nat_cmp (filter_map node_in list) ≡ ns
listed_are list ns e a = ap (λ (l : List Posting). ascending nat_cmp (filter_map node_in l)) e ∙ (ap (ascending nat_cmp) (only_nodes ns) ∙ ascending_same nat_cmp nat_order ns a)

-- without changes nothing is gained or lost
pub none_gained : {E : Type 0} (r : Result (List Part) E) (schema : List PredDef) (graph : List Triple) → IsLawful schema graph → IfOk r (λ gains. gains ≡ []) → IfOk r (λ gains. AreOwn schema graph [] gains)
none_gained (Ok gains) schema graph l e = subst (AreOwn schema graph []) (sym e) (own_none schema graph l)
none_gained (Err fault) schema graph l e = tt

module _ (schema : List PredDef) (base : List Triple) (own : List Change) (parts : List Part) (are : AreOwn schema base own parts) where
  abbrev after : List Triple
  after = after_changes schema base own

  after_lawful : IsLawful schema (after_changes schema base own)
  after_lawful = lawful_goal schema base own are.fitting are.lawful

  pub subjects_are : (p q : List ℕ) (o : ℕ) → q ≡ p → has_reverse schema p ≡ true → ascending nat_cmp (filter_map node_in (seen schema base parts (Reverse q o))) ≡ subjects_of (after_changes schema base own) p (Uid o)
  subjects_are p q o e r =
      listed_are (seen schema base parts (Reverse q o)) (subjects_of after p (Uid o)) (own_read schema base own parts (Reverse q o) are ∙ (ap (λ (x : List ℕ). listing schema after (Reverse x o)) e ∙ reverse_lists schema after p o r)) (where_ascend _ after p)

  pub token_are : (p q : List ℕ) (t u : IndexToken) → q ≡ p → u ≡ t → is_indexed_by schema p t.tokenizer ≡ true → ascending nat_cmp (filter_map node_in (seen schema base parts (Index q u))) ≡ subjects_where (has_token t) (after_changes schema base own) p
  token_are p q t u e f i =
      listed_are (seen schema base parts (Index q u)) (subjects_where (has_token t) after p) (own_read schema base own parts (Index q u) are ∙ ((λ j. listing schema after (Index (e j) (f j))) ∙ token_lists schema after p t i)) (where_ascend (has_token t) after p)

  -- what a span shows over the gains is what it shows in the graph
  in_graph : (p q : List ℕ) (over was : Over) (found : List ℕ) → q ≡ p → was ≡ over → AreShown (record { pred = q; over = was }) (seen schema base parts) found → AreShown (record { pred = p; over = over }) (listing schema (after_changes schema base own)) found
  in_graph p q over was found e f a =
      shown_as (record { pred = p; over = over }) (seen schema base parts) (listing schema after) found (λ key. own_read schema base own parts key are) (subst (λ (x : List ℕ). AreShown (record { pred = x; over = over }) (seen schema base parts) found) e (subst (λ (x : Over). AreShown (record { pred = q; over = x }) (seen schema base parts) found) f a))

  pub range_are : (p q : List ℕ) (tokenizer : Tokenizer) (low high from upto : Option Value) (found : List ℕ) → q ≡ p → from ≡ low → upto ≡ high → is_indexed_by schema p tokenizer ≡ true
      → AreShown (record { pred = q; over = Tokens tokenizer from upto }) (seen schema base parts) found → ascending nat_cmp found ≡ by_token_range (after_changes schema base own) p tokenizer low high
  range_are p q tokenizer low high from upto found e f g i a =
      range_found schema after p tokenizer low high i found (in_graph p q (Tokens tokenizer low high) (Tokens tokenizer from upto) found e (λ j. Tokens tokenizer (f j) (g j)) a)

  pub holders_are : (p q : List ℕ) (found : List ℕ) → q ≡ p → AreShown (record { pred = q; over = Subjects }) (seen schema base parts) found → ascending nat_cmp found ≡ holders (after_changes schema base own) p
  holders_are p q found e a = holders_found schema after p (λ s. data_listing schema after p s after_lawful) found (in_graph p q Subjects Subjects found e refl a)

  pub counts_are : (p q : List ℕ) (reverse : Bool) (low : ℕ) (high : Option ℕ) (over : Over) (found : List ℕ) → q ≡ p → over ≡ (if reverse then Pointers low high else Objects low high) → has_numbers schema p reverse ≡ true
      → AreShown (record { pred = q; over = over }) (seen schema base parts) found → ascending nat_cmp found ≡ by_count (after_changes schema base own) p reverse low high
  counts_are p q true low high over found e f n a = pointers_found schema after p low high n found (in_graph p q (Pointers low high) over found e f a)
  counts_are p q false low high over found e f n a = objects_found schema after p low high n found (in_graph p q (Objects low high) over found e f a)
