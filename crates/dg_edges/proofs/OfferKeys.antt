-- An offer of parts that are gains and losses is sound: its keys and predicates name what its parts touch.
use Rattle.std.proofs.Common.{◌≡◌, ◌≢◌, ℕ, nat_le, Bool, true, false, cond, not, List, [], ◌∷◌, ◌++◌, Option, Some, None, length, map, flat_map, refl, ap, subst, sym, ◌∙◌, inl, inr}
use Rattle.std.specs.Prelude.{◌==◌, ◌&&◌, ◌||◌}
use mathlib.Core.Logic.{◌⊎◌}
use Rattle.std.specs.List.{AllByRecursion}
use Rattle.std.proofs.lemmas.Bool.{both_ways}
use Rattle.std.specs.Ordering.{is_eq, nat_cmp}
use Rattle.dg_values.specs.Order.{text_cmp, posting_cmp}
use Rattle.dg_values.specs.Ascending.{has}
use Rattle.dg_values.specs.declared.value.Posting.{Posting}
use Rattle.dg_values.specs.declared.value.Posting.TheVariants.{Uid, Val}
use Rattle.dg_values.proofs.OrderLaws.{posting_order}
use Rattle.dg_sets.proofs.MadeOrders.{nat_order, text_order}
use Rattle.dg_sets.proofs.Sets.{is_one, at, from_each, has_more, ascends_more, one_list, all_with}
use Rattle.dg_delta.specs.Ops.{AreOps}
use Rattle.dg_schema.specs.declared.definition.PredDef.{PredDef}
use Rattle.dg_schema.specs.Definitions.{definition_of, is_single, is_single_by}
use Rattle.dg_graph.specs.declared.change.Triple.{Triple}
use Rattle.dg_graph.specs.declared.change.Change.{Change}
use Rattle.dg_graph.specs.declared.change.Change.TheVariants as changes
use Rattle.dg_graph.specs.Graphs.{triple_cmp, objects, after_change, after_changes, IsLawful}
use Rattle.dg_graph.specs.Changes.{has_triple, changed, is_cleared}
use Rattle.dg_graph.specs.Lookups.{subjects_of}
use Rattle.dg_graph.proofs.GraphLaws.{triple_order, of_subject, single_from, change_by_triple}
use Rattle.dg_graph.proofs.ObjectLaws.{objects_are, subjects_are, subjects_ascend}
use Rattle.dg_keys.specs.declared.conflict.ConflictKey.{ConflictKey}
use Rattle.dg_keys.specs.declared.conflict.ConflictKey.TheVariants as conflicts
use Rattle.dg_keys.specs.declared.key.Key.{Key}
use Rattle.dg_keys.specs.declared.key.Key.TheVariants as keys
use Rattle.dg_keys.specs.declared.record.Part.{Part}
use Rattle.dg_keys.specs.Keys.{key_cmp, pred_of, ops_at}
use Rattle.dg_keys.specs.Conflicts.{conflict_cmp}
use Rattle.dg_keys.specs.KeyOrder.{conflict_order}
use Rattle.dg_zero.specs.Worlds.{changes_of}
use Rattle.dg_zero.specs.Listings.{listing, listing_by, AreGainsAndLosses, keys_of_object, reverse_keys, keys_of_change, keys_of_changes, conflict_keys, touched}
use Rattle.dg_edges.specs.Deltas.{gains, data_keys, preds_of, AreFitting}
use Rattle.dg_edges.specs.Filing.{is_counted_by}
use Rattle.dg_edges.specs.Laws.{OffersAreSound, OffersAreMade}
use Rattle.dg_edges.specs.Regions.{triple_keys}
use Rattle.dg_edges.proofs.AgreeLaws.{Leads}
use Rattle.dg_edges.proofs.AnyKeys.{front, behind}
use Rattle.dg_edges.proofs.EdgeLaws.{listing_ascends, keeps_objects, keys_are, gains_none}
use Rattle.dg_edges.proofs.FiledParts.{listed_own}
use Rattle.dg_edges.proofs.FilingLaws.{listed_under}
use Rattle.dg_edges.proofs.Members.{unlisted}
use Rattle.dg_edges.proofs.NumberParts.{numbered_list}
use Rattle.dg_edges.proofs.OfferLaws.{IsOfDifference, gains_differ, deltas_lead, lawful_goal, pred_named, some_preds}
use Rattle.dg_edges.proofs.PartLaws.{all_joined, own_ops}
use Rattle.dg_edges.proofs.TripleKeys.{changed_keys}

-- ---- the keys of changes that lead from one graph to another, each of a triple that differs

module _ (P : ConflictKey → Type 0) where
  -- keys of an object and of its node, from those of its triple
  own_object : (def : PredDef) (w : Triple) → AllByRecursion P (keys_of_change (Some def) [] (changes.Del w)) → AllByRecursion P (keys_of_object def w w.o)
  own_object def w a = front P (keys_of_object def w w.o) [] (front P (flat_map (keys_of_object def w) (w.o ∷ [])) (cond def.count (conflicts.Count w.p w.s ∷ []) [] ++ cond (def.reverse && def.count) (flat_map (reverse_keys w) (w.o ∷ [])) []) a.1)

  own_rest : (def : PredDef) (w : Triple) → AllByRecursion P (keys_of_change (Some def) [] (changes.Del w)) → AllByRecursion P (cond def.count (conflicts.Count w.p w.s ∷ []) [] ++ cond (def.reverse && def.count) (flat_map (reverse_keys w) (w.o ∷ [])) [])
  own_rest def w a = behind P (flat_map (keys_of_object def w) (w.o ∷ [])) (cond def.count (conflicts.Count w.p w.s ∷ []) [] ++ cond (def.reverse && def.count) (flat_map (reverse_keys w) (w.o ∷ [])) []) a.1

  own_node : (def : PredDef) (w : Triple) → AllByRecursion P (keys_of_change (Some def) [] (changes.Del w)) → AllByRecursion P (cond (def.reverse && def.count) (reverse_keys w w.o) [])
  own_node def w a = by (def.reverse && def.count) (behind P (cond def.count (conflicts.Count w.p w.s ∷ []) []) (cond (def.reverse && def.count) (flat_map (reverse_keys w) (w.o ∷ [])) []) (own_rest def w a))
    where
      by : (v : Bool) → AllByRecursion P (cond v (flat_map (reverse_keys w) (w.o ∷ [])) []) → AllByRecursion P (cond v (reverse_keys w w.o) [])
      by true b = front P (reverse_keys w w.o) [] b
      by false b = tt

  -- the keys of some objects, and of their nodes
  each_object : (f : Posting → List ConflictKey) (os : List Posting) → AllByRecursion (λ o. AllByRecursion P (f o)) os → AllByRecursion P (flat_map f os)
  each_object f [] a = tt
  each_object f (o ∷ os) a = all_joined P (f o) (flat_map f os) a.0 (each_object f os a.1)

  each_node : (b : Bool) (f : Posting → List ConflictKey) (os : List Posting) → AllByRecursion (λ o. AllByRecursion P (cond b (f o) [])) os → AllByRecursion P (cond b (flat_map f os) [])
  each_node true f os a = each_object f os a
  each_node false f os a = tt

  -- a set's keys, from those of each triple whose object it touches
  set_keys : (def : PredDef) (graph : List Triple) (t : Triple) → AllByRecursion (λ o. AllByRecursion P (keys_of_change (Some def) [] (changes.Del (record { s = t.s; p = t.p; o = o })))) (touched def graph (changes.Set t)) → AllByRecursion P (keys_of_change (Some def) graph (changes.Set t))
  set_keys def graph t a =
      let os : List Posting = touched def graph (changes.Set t) in
      let counts : List ConflictKey = cond def.count (conflicts.Count t.p t.s ∷ []) [] in
      let nodes : List ConflictKey = cond (def.reverse && def.count) (flat_map (reverse_keys t) os) [] in (
        a.0.0,
        all_joined P (flat_map (keys_of_object def t) os) (counts ++ nodes)
            (each_object (keys_of_object def t) os (all_with (λ o. AllByRecursion P (keys_of_change (Some def) [] (changes.Del (record { s = t.s; p = t.p; o = o })))) (λ o. AllByRecursion P (keys_of_object def t o)) os (λ o b. own_object def (record { s = t.s; p = t.p; o = o }) b) a))
            (all_joined P counts nodes
            (front P counts (cond (def.reverse && def.count) (flat_map (reverse_keys t) (t.o ∷ [])) []) (own_rest def t a.0))
            (each_node (def.reverse && def.count) (reverse_keys t) os (all_with (λ o. AllByRecursion P (keys_of_change (Some def) [] (changes.Del (record { s = t.s; p = t.p; o = o })))) (λ o. AllByRecursion P (cond (def.reverse && def.count) (reverse_keys t o) [])) os (λ o b. own_node def (record { s = t.s; p = t.p; o = o }) b) a))),
      )

  deleted : (d : Option PredDef) (graph : List Triple) (t : Triple) → AllByRecursion P (keys_of_change d [] (changes.Del t)) → AllByRecursion P (keys_of_change d graph (changes.Del t))
  deleted None graph t a = tt
  deleted (Some def) graph t a = a

  module _ (schema : List PredDef) (graph goal : List Triple) (m : IsLawful schema goal) (named : (u : Triple) → (has_triple graph u ≡ has_triple goal u → ⊥) → AllByRecursion P (triple_keys schema u)) where
    -- each triple is of one of the two graphs
    abbrev IsBetween : List Triple → Type 0
    IsBetween now = (u : Triple) → has_triple now u ≡ true → (has_triple graph u ≡ true) ⊎ (has_triple goal u ≡ true)

    -- a triple that a set takes the place of differs, or is its own
    cleared_named : (now : List Triple) (t : Triple) (o : Posting) → IsBetween now → has_triple goal t ≡ true → (has_triple graph t ≡ has_triple goal t → ⊥) → is_single schema t.p ≡ true → has_triple now (record { s = t.s; p = t.p; o = o }) ≡ true → AllByRecursion P (triple_keys schema (record { s = t.s; p = t.p; o = o }))
    cleared_named now t o between leads differs single there = by (has_triple goal (record { s = t.s; p = t.p; o = o })) refl
      where
        from : has_triple goal (record { s = t.s; p = t.p; o = o }) ≡ false → (has_triple graph (record { s = t.s; p = t.p; o = o }) ≡ true) ⊎ (has_triple goal (record { s = t.s; p = t.p; o = o }) ≡ true) → AllByRecursion P (triple_keys schema (record { s = t.s; p = t.p; o = o }))
        from e (inl was) = named (record { s = t.s; p = t.p; o = o }) (λ same. both_ways (has_triple goal (record { s = t.s; p = t.p; o = o })) e (sym same ∙ was))
        from e (inr is) = absurd (both_ways (has_triple goal (record { s = t.s; p = t.p; o = o })) e is)

        by : (v : Bool) → has_triple goal (record { s = t.s; p = t.p; o = o }) ≡ v → AllByRecursion P (triple_keys schema (record { s = t.s; p = t.p; o = o }))
        by true e =
            let one : t ≡ record { s = t.s; p = t.p; o = o } = (single_from schema goal m.single).one t (record { s = t.s; p = t.p; o = o }) leads e single (of_subject t.p t.s (record { s = t.s; p = t.p; o = o }) refl refl) in
            subst (λ (w : Triple). AllByRecursion P (triple_keys schema w)) one (named t differs)
        by false e = from e (between (record { s = t.s; p = t.p; o = o }) there)

    -- what a set touches
    touched_named : (d : Option PredDef) (now : List Triple) (t : Triple) → definition_of schema t.p ≡ d → IsBetween now → has_triple goal t ≡ true → (has_triple graph t ≡ has_triple goal t → ⊥) → AllByRecursion P (keys_of_change d now (changes.Set t))
    touched_named None now t e between leads differs = tt
    touched_named (Some def) now t e between leads differs = set_keys def now t (own, by def.list refl)
      where
        its : (o : Posting) → AllByRecursion P (triple_keys schema (record { s = t.s; p = t.p; o = o })) → AllByRecursion P (keys_of_change (Some def) [] (changes.Del (record { s = t.s; p = t.p; o = o })))
        its o a = subst (λ (d : Option PredDef). AllByRecursion P (keys_of_change d [] (changes.Del (record { s = t.s; p = t.p; o = o })))) e a

        own : AllByRecursion P (keys_of_change (Some def) [] (changes.Del t))
        own = its t.o (named t differs)

        single : def.list ≡ false → is_single schema t.p ≡ true
        single f = ap is_single_by e ∙ ap not f

        by : (v : Bool) → def.list ≡ v → AllByRecursion (λ o. AllByRecursion P (keys_of_change (Some def) [] (changes.Del (record { s = t.s; p = t.p; o = o })))) (cond v [] (objects now t.p t.s))
        by true f = tt
        by false f =
            from_each posting_cmp posting_order (λ o. AllByRecursion P (keys_of_change (Some def) [] (changes.Del (record { s = t.s; p = t.p; o = o })))) (objects now t.p t.s)
            (λ o there. its o (cleared_named now t o between leads differs (single f) (sym (objects_are now t.p t.s o) ∙ there)))

    -- one change more keeps between
    still_between : (now : List Triple) (c : Change) → IsBetween now → Leads goal c → IsBetween (after_change schema now c)
    still_between now (changes.Set t) between leads u h = by (is_eq (triple_cmp t u)) refl (sym (change_by_triple schema now (changes.Set t) u) ∙ h)
      where
        second : (a b : Bool) → (a && b) ≡ true → b ≡ true
        second true b f = f
        second false b f = absurd (cc)

        by : (v : Bool) → is_eq (triple_cmp t u) ≡ v → (v || (not (is_cleared schema t u) && has_triple now u)) ≡ true → (has_triple graph u ≡ true) ⊎ (has_triple goal u ≡ true)
        by true e f = inr (subst (λ (w : Triple). has_triple goal w ≡ true) (is_one triple_cmp triple_order t u e) leads)
        by false e f = between u (second (not (is_cleared schema t u)) (has_triple now u) f)
    still_between now (changes.Del t) between leads u h = between u (second (not (is_eq (triple_cmp u t))) (has_triple now u) (sym (change_by_triple schema now (changes.Del t) u) ∙ h))
      where
        second : (a b : Bool) → (a && b) ≡ true → b ≡ true
        second true b f = f
        second false b f = absurd (cc)

    pub leading_keys : (now : List Triple) (ds : List Change) → IsBetween now → AllByRecursion (IsOfDifference graph goal) ds → AllByRecursion P (keys_of_changes schema now ds)
    leading_keys now [] between a = tt
    leading_keys now (changes.Set t ∷ ds) between a =
        all_joined P (keys_of_change (definition_of schema t.p) now (changes.Set t)) (keys_of_changes schema (after_change schema now (changes.Set t)) ds)
        (touched_named (definition_of schema t.p) now t refl between a.0.leads a.0.differs)
        (leading_keys (after_change schema now (changes.Set t)) ds (still_between now (changes.Set t) between a.0.leads) a.1)
    leading_keys now (changes.Del t ∷ ds) between a =
        all_joined P (keys_of_change (definition_of schema t.p) now (changes.Del t)) (keys_of_changes schema (after_change schema now (changes.Del t)) ds)
        (deleted (definition_of schema t.p) now t (named t a.0.differs))
        (leading_keys (after_change schema now (changes.Del t)) ds (still_between now (changes.Del t) between a.0.leads) a.1)

-- so the keys of parts are among those of the changes
pub keys_among : (schema : List PredDef) (graph : List Triple) (cs : List Change) (parts : List Part) → AreFitting schema cs → IsLawful schema graph → AreGainsAndLosses schema graph schema (after_changes schema graph cs) parts → AllByRecursion (λ key. has conflict_cmp (conflict_keys schema graph cs) key ≡ true) (conflict_keys schema graph (changes_of parts))
keys_among schema graph cs parts fit l e =
    from_each conflict_cmp conflict_order (λ key. has conflict_cmp (conflict_keys schema graph cs) key ≡ true) (conflict_keys schema graph (changes_of parts))
    (λ key h. at conflict_cmp conflict_order (λ k. has conflict_cmp (conflict_keys schema graph cs) k ≡ true) (keys_of_changes schema graph (changes_of parts)) key all (sym (has_more conflict_cmp conflict_order [] (keys_of_changes schema graph (changes_of parts)) key) ∙ h))
  where
    mine : AllByRecursion (λ k. has conflict_cmp (conflict_keys schema graph cs) k ≡ true) (keys_of_changes schema graph cs)
    mine = from_each conflict_cmp conflict_order (λ k. has conflict_cmp (conflict_keys schema graph cs) k ≡ true) (keys_of_changes schema graph cs) (λ k there. has_more conflict_cmp conflict_order [] (keys_of_changes schema graph cs) k ∙ there)

    all : AllByRecursion (λ k. has conflict_cmp (conflict_keys schema graph cs) k ≡ true) (keys_of_changes schema graph (changes_of parts))
    all =
        leading_keys (λ k. has conflict_cmp (conflict_keys schema graph cs) k ≡ true) schema graph (after_changes schema graph cs) (lawful_goal schema graph cs fit l)
        (λ u differs. changed_keys (λ k. has conflict_cmp (conflict_keys schema graph cs) k ≡ true) schema graph cs u differs mine)
        graph (changes_of parts) (λ u h. inl h) (gains_differ schema graph (after_changes schema graph cs) parts l (lawful_goal schema graph cs fit l) e)

-- ---- predicates

-- lists of a predicate whose subjects' objects are the same in two graphs
same_list : (schema : List PredDef) (g h : List Triple) (key : Key) → ((s : ℕ) → objects g (pred_of key) s ≡ objects h (pred_of key) s) → (o : Posting) → has posting_cmp (listing schema g key) o ≡ has posting_cmp (listing schema h key) o
same_list schema g h (keys.Data p s) same o = by (definition_of schema p)
  where
    by : (d : Option PredDef) → has posting_cmp (listing_by d g (keys.Data p s)) o ≡ has posting_cmp (listing_by d h (keys.Data p s)) o
    by None = refl
    by (Some def) = λ i. has posting_cmp (same s i) o
same_list schema g h (keys.Index p t) same (Uid u) = listed_own (definition_of schema p) g (keys.Index p t) u tt ∙ ((λ i. listed_under (definition_of schema p) (keys.Index p t) (same u i)) ∙ sym (listed_own (definition_of schema p) h (keys.Index p t) u tt))
same_list schema g h (keys.Index p t) same (Val v) = unlisted schema g (keys.Index p t) (Val v) refl ∙ sym (unlisted schema h (keys.Index p t) (Val v) refl)
same_list schema g h (keys.Reverse p n) same (Uid u) = listed_own (definition_of schema p) g (keys.Reverse p n) u tt ∙ ((λ i. listed_under (definition_of schema p) (keys.Reverse p n) (same u i)) ∙ sym (listed_own (definition_of schema p) h (keys.Reverse p n) u tt))
same_list schema g h (keys.Reverse p n) same (Val v) = unlisted schema g (keys.Reverse p n) (Val v) refl ∙ sym (unlisted schema h (keys.Reverse p n) (Val v) refl)
same_list schema g h (keys.Count p n) same (Uid u) = listed_own (definition_of schema p) g (keys.Count p n) u tt ∙ ((λ i. listed_under (definition_of schema p) (keys.Count p n) (same u i)) ∙ sym (listed_own (definition_of schema p) h (keys.Count p n) u tt))
same_list schema g h (keys.Count p n) same (Val v) = unlisted schema g (keys.Count p n) (Val v) refl ∙ sym (unlisted schema h (keys.Count p n) (Val v) refl)
same_list schema g h (keys.RCount p n) same (Val v) = unlisted schema g (keys.RCount p n) (Val v) refl ∙ sym (unlisted schema h (keys.RCount p n) (Val v) refl)
same_list schema g h (keys.RCount p n) same (Uid u) =
    let subjects : subjects_of g p (Uid u) ≡ subjects_of h p (Uid u) =
    one_list nat_cmp nat_order (subjects_of g p (Uid u)) (subjects_of h p (Uid u)) (subjects_ascend g p (Uid u)) (subjects_ascend h p (Uid u))
    (λ s. subjects_are g p s (Uid u) ∙ (sym (objects_are g p s (Uid u)) ∙ ((λ i. has posting_cmp (same s i) (Uid u)) ∙ (objects_are h p s (Uid u) ∙ sym (subjects_are h p s (Uid u)))))) in
    numbered_list (definition_of schema p) g p n u ∙ ((λ i. is_counted_by (definition_of schema p) && (nat_le 1 n && (length (subjects i) == n))) ∙ sym (numbered_list (definition_of schema p) h p n u))

-- a part is of a predicate of the changes
part_named : (schema : List PredDef) (graph : List Triple) (cs : List Change) (part : Part) → AreFitting schema cs → IsLawful schema graph → part.ops ≢ [] → part.ops ≡ gains schema graph (after_changes schema graph cs) part.key → has text_cmp (preds_of cs) (pred_of part.key) ≡ true
part_named schema graph cs part fit l some is = by (has text_cmp (preds_of cs) (pred_of part.key)) refl
  where
    -- no subject of another predicate is changed
    other : has text_cmp (preds_of cs) (pred_of part.key) ≡ false → (s : ℕ) → (v : Bool) → has key_cmp (data_keys cs) (keys.Data (pred_of part.key) s) ≡ v → v ≡ false
    other e s true h = absurd (both_ways (has text_cmp (preds_of cs) (pred_of part.key)) e (has_more text_cmp text_order [] (map (λ c. (changed c).p) cs) (pred_of part.key) ∙ pred_named cs (keys.Data (pred_of part.key) s) (sym (keys_are cs (keys.Data (pred_of part.key) s)) ∙ h)))
    other e s false h = refl

    by : (v : Bool) → has text_cmp (preds_of cs) (pred_of part.key) ≡ v → v ≡ true
    by true e = refl
    by false e =
        let goal = after_changes schema graph cs in
        let same : listing schema graph part.key ≡ listing schema goal part.key =
        one_list posting_cmp posting_order (listing schema graph part.key) (listing schema goal part.key) (listing_ascends schema graph part.key l.ascend) (listing_ascends schema goal part.key (lawful_goal schema graph cs fit l).ascend)
        (same_list schema graph goal part.key (λ s. keeps_objects schema graph cs (pred_of part.key) s l.ascend (other e s (has key_cmp (data_keys cs) (keys.Data (pred_of part.key) s)) refl))) in
        absurd (some (is ∙ gains_none schema graph goal part.key same))

parts_named : (schema : List PredDef) (graph : List Triple) (cs : List Change) (parts all : List Part) → AreFitting schema cs → IsLawful schema graph → ((key : Key) → ops_at all key ≡ gains schema graph (after_changes schema graph cs) key) → AllByRecursion (λ part. AreOps part.ops) parts → AllByRecursion (λ part. ops_at all part.key ≡ part.ops) parts → AllByRecursion (λ part. has text_cmp (preds_of cs) (pred_of part.key) ≡ true) parts
parts_named schema graph cs [] all fit l exact each own = tt
parts_named schema graph cs (part ∷ parts) all fit l exact each own =
    (part_named schema graph cs part fit l each.0.some (sym own.0 ∙ exact part.key), parts_named schema graph cs parts all fit l exact each.1 own.1)

-- ---- soundness

pub offers_are_sound : OffersAreSound
offers_are_sound schema graph cs parts some fit l e =
    let m = lawful_goal schema graph cs fit l in
    let lead = deltas_lead schema graph cs parts fit l e in
    record {
      some = some_preds cs some;
      lawful = subst (λ (g : List Triple). IsLawful schema g) (sym lead) m;
      parts_are = subst (λ (g : List Triple). AreGainsAndLosses schema graph schema g parts) (sym lead) e;
      ascend = ascends_more conflict_cmp conflict_order [] (keys_of_changes schema graph cs) tt;
      keys_named = keys_among schema graph cs parts fit l e;
      preds_named = parts_named schema graph cs parts parts fit l e.exact e.parts_are.each (own_ops parts e.parts_are.ascend);
    }

pub offers_are_made : OffersAreMade
offers_are_made schema graph cs parts fit l e = record { keys_are = refl; lead_alike = deltas_lead schema graph cs parts fit l e }
