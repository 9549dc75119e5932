-- At a commit that fits, keys of all kinds list what they gain and lose by its parts as at its start.
use Rattle.std.proofs.Common.{◌≡◌, ℕ, Bool, true, false, List, [], Option, Some, None, refl, ap, subst, sym, ◌∙◌, inl, inr}
use mathlib.Core.Logic.{◌⊎◌}
use Rattle.std.specs.List.{AllByRecursion}
use Rattle.std.proofs.lemmas.Bool.{both_ways}
use Rattle.dg_values.specs.Ascending.{has}
use Rattle.dg_values.specs.Order.{posting_cmp}
use Rattle.dg_values.specs.declared.value.Posting.{Posting}
use Rattle.dg_sets.proofs.Sets.{at, from_each, has_more}
use Rattle.dg_schema.specs.declared.definition.PredDef.{PredDef}
use Rattle.dg_schema.specs.Definitions.{definition_of}
use Rattle.dg_graph.specs.declared.change.Triple.{Triple}
use Rattle.dg_graph.specs.declared.change.Change.{Change}
use Rattle.dg_graph.specs.Graphs.{triple_cmp, fits, fits_by, after_changes, IsLawful}
use Rattle.dg_graph.specs.Changes.{has_triple, there_after_all}
use Rattle.dg_graph.proofs.GraphLaws.{triple_order, changes_by_triple}
use Rattle.dg_keys.specs.declared.conflict.ConflictKey.{ConflictKey}
use Rattle.dg_keys.specs.declared.record.Record.{Record}
use Rattle.dg_keys.specs.declared.key.Key.{Key}
use Rattle.dg_keys.specs.Keys.{ops_at}
use Rattle.dg_keys.specs.KeyOrder.{conflict_order}
use Rattle.dg_keys.specs.Conflicts.{conflict_cmp}
use Rattle.dg_oracle.specs.Verdicts.{HasNoClash}
use Rattle.dg_zero.specs.declared.entry.Entry.{Entry}
use Rattle.dg_zero.specs.Worlds.{world, schema, schema_at, graph_at, changes_of}
use Rattle.dg_zero.specs.Verdicts.{commits}
use Rattle.dg_zero.specs.Listings.{listing, keys_of_changes, conflict_keys}
use Rattle.dg_zero.specs.Legal.{FitsCommit, IsLegal}
use Rattle.dg_zero.proofs.LawfulGraphs.{graphs_are_lawful, present_lawful}
use Rattle.dg_zero.proofs.SchemasStay.{schemas_stay}
use Rattle.dg_edges.specs.Deltas.{gains, data_conflict, AreFitting}
use Rattle.dg_edges.specs.Regions.{triple_keys, AgreeIn, listing_conflict}
use Rattle.dg_edges.specs.Laws.{AgreeAt, AgreeOn, CommitsAreExact, PartsStay}
use Rattle.dg_edges.proofs.AgreeLaws.{same_bools}
use Rattle.dg_edges.proofs.AnyKeys.{data_found}
use Rattle.dg_edges.proofs.CommitsSince.{parts_clear, differ_now}
use Rattle.dg_edges.proofs.EdgeLaws.{listing_ascends}
use Rattle.dg_edges.proofs.KeysStay.{keys_stand_still}
use Rattle.dg_edges.proofs.Members.{lists_by_keys, unlisted}
use Rattle.dg_edges.proofs.OfferLaws.{lawful_goal}
use Rattle.dg_edges.proofs.PartsStay.{DifferAlike, both_alike, neither_changed, unmoved, same_changes, triple_alike}
use Rattle.dg_edges.proofs.SoundParts.{sound_changes_fit}
use Rattle.dg_edges.proofs.TripleKeys.{changed_keys, changes_are_named, data_in}

-- ---- two graphs with the same changes

-- the changes do one thing to the triples of a key: these are the same in both graphs, before and after, or the changes leave them in both
abbrev DoAlike : List PredDef → ConflictKey → List Triple → List Triple → List Triple → List Triple → Type 0
DoAlike schema key old new old' new' = (AgreeIn schema key old old' × AgreeIn schema key new new') ⊎ (AgreeIn schema key old new × AgreeIn schema key old' new')

-- so lists gain and lose alike
gains_alike : (schema : List PredDef) (old new old' new' : List Triple) (key : Key) → IsLawful schema old → IsLawful schema new → IsLawful schema old' → IsLawful schema new' → ((c : ConflictKey) → DoAlike schema c old new old' new') → gains schema old new key ≡ gains schema old' new' key
gains_alike schema old new old' new' key a b c d alike =
    same_changes (listing schema old key) (listing schema new key) (listing schema old' key) (listing schema new' key)
    (listing_ascends schema old key a.ascend) (listing_ascends schema new key b.ascend) (listing_ascends schema old' key c.ascend) (listing_ascends schema new' key d.ascend)
    (λ o. posting o (listing_conflict schema key o) refl)
  where
    by_key : (o : Posting) (k : ConflictKey) → listing_conflict schema key o ≡ Some k → DoAlike schema k old new old' new' → DifferAlike (has posting_cmp (listing schema old key) o) (has posting_cmp (listing schema new key) o) (has posting_cmp (listing schema old' key) o) (has posting_cmp (listing schema new' key) o)
    by_key o k e (inl p) =
        both_alike (has posting_cmp (listing schema old key) o) (has posting_cmp (listing schema new key) o) (has posting_cmp (listing schema old' key) o) (has posting_cmp (listing schema new' key) o)
        (lists_by_keys schema old old' key o k a c e p.0) (lists_by_keys schema new new' key o k b d e p.1)
    by_key o k e (inr p) =
        neither_changed (has posting_cmp (listing schema old key) o) (has posting_cmp (listing schema new key) o) (has posting_cmp (listing schema old' key) o) (has posting_cmp (listing schema new' key) o)
        (lists_by_keys schema old new key o k a b e p.0) (lists_by_keys schema old' new' key o k c d e p.1)

    posting : (o : Posting) (k : Option ConflictKey) → listing_conflict schema key o ≡ k → DifferAlike (has posting_cmp (listing schema old key) o) (has posting_cmp (listing schema new key) o) (has posting_cmp (listing schema old' key) o) (has posting_cmp (listing schema new' key) o)
    posting o None e =
        neither_changed (has posting_cmp (listing schema old key) o) (has posting_cmp (listing schema new key) o) (has posting_cmp (listing schema old' key) o) (has posting_cmp (listing schema new' key) o)
        (unlisted schema old key o e ∙ sym (unlisted schema new key o e)) (unlisted schema old' key o e ∙ sym (unlisted schema new' key o e))
    posting o (Some k) e = by_key o k e (alike k)

-- ---- a commit that fits

module _ (n : ℕ) (h : List Entry) (author start : ℕ) (preds : List (List ℕ)) (keys : List ConflictKey) (asked : List Change) (written : Record) (l : IsLegal n h) (f : FitsCommit h author start preds keys asked written) where
  same : schema_at h start ≡ schema h
  same = schemas_stay n h start author l f.active

  fit : AreFitting (schema_at h start) (changes_of written.parts)
  fit = sound_changes_fit (schema_at h start) (graph_at h start []) preds keys written.parts (graphs_are_lawful n h start l) f.sound

  lawful_now : IsLawful (schema_at h start) (world h).graph
  lawful_now = subst (λ (s : List PredDef). IsLawful s (world h).graph) (sym same) (present_lawful n h l)

  -- the parts do one thing to the triples of each key, at the start and now
  do_alike : (key : ConflictKey) → DoAlike (schema_at h start) key (graph_at h start []) (after_changes (schema_at h start) (graph_at h start []) (changes_of written.parts)) (world h).graph (after_changes (schema_at h start) (world h).graph (changes_of written.parts))
  do_alike key = by (has conflict_cmp (keys_of_changes (schema_at h start) (graph_at h start []) (changes_of written.parts)) key) refl
    where
      -- a key of the parts: nobody else has it
      stands : has conflict_cmp (keys_of_changes (schema_at h start) (graph_at h start []) (changes_of written.parts)) key ≡ true → AgreeIn (schema_at h start) key (graph_at h start []) (world h).graph
      stands e =
          let free = at conflict_cmp conflict_order (HasNoClash conflict_cmp (commits h) start) (keys_of_changes (schema_at h start) (graph_at h start []) (changes_of written.parts)) key (parts_clear n h author start preds keys asked written l f) e in
          subst (λ (s : List PredDef). AgreeIn s key (graph_at h start []) (world h).graph) (sym same) (keys_stand_still n h start author key l f.active free)

      stands_after : AgreeIn (schema_at h start) key (graph_at h start []) (world h).graph → AgreeIn (schema_at h start) key (after_changes (schema_at h start) (graph_at h start []) (changes_of written.parts)) (after_changes (schema_at h start) (world h).graph (changes_of written.parts))
      stands_after agree u is =
          changes_by_triple (schema_at h start) (graph_at h start []) (changes_of written.parts) u
          ∙ ((λ i. there_after_all (schema_at h start) u (agree u is i) (changes_of written.parts))
          ∙ sym (changes_by_triple (schema_at h start) (world h).graph (changes_of written.parts) u))

      -- another key: the parts change none of its triples
      left : has conflict_cmp (keys_of_changes (schema_at h start) (graph_at h start []) (changes_of written.parts)) key ≡ false → AgreeIn (schema_at h start) key (graph_at h start []) (after_changes (schema_at h start) (graph_at h start []) (changes_of written.parts))
      left e u is = split (same_bools (has_triple (graph_at h start []) u) (has_triple (after_changes (schema_at h start) (graph_at h start []) (changes_of written.parts)) u))
        where
          split : (has_triple (graph_at h start []) u ≡ has_triple (after_changes (schema_at h start) (graph_at h start []) (changes_of written.parts)) u) ⊎ (has_triple (graph_at h start []) u ≡ has_triple (after_changes (schema_at h start) (graph_at h start []) (changes_of written.parts)) u → ⊥)
              → has_triple (graph_at h start []) u ≡ has_triple (after_changes (schema_at h start) (graph_at h start []) (changes_of written.parts)) u
          split (inl same) = same
          split (inr differs) =
              let all = keys_of_changes (schema_at h start) (graph_at h start []) (changes_of written.parts) in
              let named = changed_keys (λ k. has conflict_cmp all k ≡ true) (schema_at h start) (graph_at h start []) (changes_of written.parts) u differs (from_each conflict_cmp conflict_order (λ k. has conflict_cmp all k ≡ true) all (λ k there. there)) in
              absurd (both_ways (has conflict_cmp all key) e (at conflict_cmp conflict_order (λ k. has conflict_cmp all k ≡ true) (triple_keys (schema_at h start) u) key named is))

      left_now : AgreeIn (schema_at h start) key (graph_at h start []) (after_changes (schema_at h start) (graph_at h start []) (changes_of written.parts)) → AgreeIn (schema_at h start) key (world h).graph (after_changes (schema_at h start) (world h).graph (changes_of written.parts))
      left_now keeps u is =
          unmoved (has_triple (graph_at h start []) u) (has_triple (after_changes (schema_at h start) (graph_at h start []) (changes_of written.parts)) u) (has_triple (world h).graph u) (has_triple (after_changes (schema_at h start) (world h).graph (changes_of written.parts)) u)
          (differ_now n h author start preds keys asked written l f u) (keeps u is)

      by : (v : Bool) → has conflict_cmp (keys_of_changes (schema_at h start) (graph_at h start []) (changes_of written.parts)) key ≡ v → DoAlike (schema_at h start) key (graph_at h start []) (after_changes (schema_at h start) (graph_at h start []) (changes_of written.parts)) (world h).graph (after_changes (schema_at h start) (world h).graph (changes_of written.parts))
      by true e = let agree = stands e in inl (agree, stands_after agree)
      by false e = let keeps = left e in inr (keeps, left_now keeps)

  -- so they are exact in the present graph
  exact_at : (key : Key) → ops_at written.parts key ≡ gains (schema h) (world h).graph (after_changes (schema h) (world h).graph (changes_of written.parts)) key
  exact_at key =
      f.sound.parts_are.exact key
      ∙ (gains_alike (schema_at h start) (graph_at h start []) (after_changes (schema_at h start) (graph_at h start []) (changes_of written.parts)) (world h).graph (after_changes (schema_at h start) (world h).graph (changes_of written.parts)) key
      (graphs_are_lawful n h start l) f.sound.lawful lawful_now (lawful_goal (schema_at h start) (world h).graph (changes_of written.parts) fit lawful_now)
      do_alike
      ∙ λ i. gains (same i) (world h).graph (after_changes (same i) (world h).graph (changes_of written.parts)) key)

pub commits_are_exact : CommitsAreExact
commits_are_exact n h author start preds keys asked written l f key = exact_at n h author start preds keys asked written l f key

-- ---- a later graph that agrees at the keys of changes

module _ (schema : List PredDef) (graph later : List Triple) (cs : List Change) (l : IsLawful schema graph) (m : IsLawful schema later) (agree : AgreeOn schema cs graph later) where
  -- it agrees at the keys of their data
  agree_data : AgreeAt schema cs graph later
  agree_data u h = by (definition_of schema u.p) refl
    where
      all : AllByRecursion (λ k. has conflict_cmp (conflict_keys schema graph cs) k ≡ true) (keys_of_changes schema graph cs)
      all = from_each conflict_cmp conflict_order (λ k. has conflict_cmp (conflict_keys schema graph cs) k ≡ true) (keys_of_changes schema graph cs) (λ k there. has_more conflict_cmp conflict_order [] (keys_of_changes schema graph cs) k ∙ there)

      none : (g : List Triple) → IsLawful schema g → definition_of schema u.p ≡ None → (v : Bool) → has_triple g u ≡ v → v ≡ false
      none g n e true there = absurd (both_ways (fits schema u) (ap (λ (d : Option PredDef). fits_by d u) e) (at triple_cmp triple_order (λ t. fits schema t ≡ true) g u n.fit there))
      none g n e false there = refl

      by : (d : Option PredDef) → definition_of schema u.p ≡ d → has_triple graph u ≡ has_triple later u
      by None e = none graph l e (has_triple graph u) refl ∙ sym (none later m e (has_triple later u) refl)
      by (Some def) e = agree (data_conflict schema u) (data_found (λ k. has conflict_cmp (conflict_keys schema graph cs) k ≡ true) schema graph cs u def e all h) u (data_in schema u def e)

  same_there : (key : ConflictKey) → DoAlike schema key graph (after_changes schema graph cs) later (after_changes schema later cs)
  same_there key = by (has conflict_cmp (conflict_keys schema graph cs) key) refl
    where
      left : has conflict_cmp (conflict_keys schema graph cs) key ≡ false → AgreeIn schema key graph (after_changes schema graph cs)
      left e u is = split (same_bools (has_triple graph u) (has_triple (after_changes schema graph cs) u))
        where
          split : (has_triple graph u ≡ has_triple (after_changes schema graph cs) u) ⊎ (has_triple graph u ≡ has_triple (after_changes schema graph cs) u → ⊥) → has_triple graph u ≡ has_triple (after_changes schema graph cs) u
          split (inl same) = same
          split (inr differs) = absurd (both_ways (has conflict_cmp (conflict_keys schema graph cs) key) e (at conflict_cmp conflict_order (λ k. has conflict_cmp (conflict_keys schema graph cs) k ≡ true) (triple_keys schema u) key (changes_are_named schema graph cs u differs) is))

      left_later : AgreeIn schema key graph (after_changes schema graph cs) → AgreeIn schema key later (after_changes schema later cs)
      left_later keeps u is =
          unmoved (has_triple graph u) (has_triple (after_changes schema graph cs) u) (has_triple later u) (has_triple (after_changes schema later cs) u)
          (triple_alike schema graph later cs u agree_data) (keeps u is)

      after : AgreeIn schema key graph later → AgreeIn schema key (after_changes schema graph cs) (after_changes schema later cs)
      after same u is = changes_by_triple schema graph cs u ∙ ((λ i. there_after_all schema u (same u is i) cs) ∙ sym (changes_by_triple schema later cs u))

      by : (v : Bool) → has conflict_cmp (conflict_keys schema graph cs) key ≡ v → DoAlike schema key graph (after_changes schema graph cs) later (after_changes schema later cs)
      by true e = let same = agree key e in inl (same, after same)
      by false e = let keeps = left e in inr (keeps, left_later keeps)

pub parts_stay : PartsStay
parts_stay schema graph later cs parts fit l m e agree = record {
  parts_are = e.parts_are;
  exact = λ key.
      e.exact key
      ∙ gains_alike schema graph (after_changes schema graph cs) later (after_changes schema later cs) key l (lawful_goal schema graph cs fit l) m (lawful_goal schema later cs fit m) (same_there schema graph later cs l m agree);
}
