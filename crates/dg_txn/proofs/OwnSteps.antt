-- What a further step makes of a transaction's own changes.
use Rattle.std.proofs.Common.{◌≡◌, ◌<◌, ◌+◌, ◌∙◌, arith, ℕ, zero, suc, sym, ap, subst, refl, List, [], ◌∷◌, ◌++◌, Bool, true, false, cond, map, append_assoc}
use Rattle.std.specs.Prelude.{Option, Some, None, IfSome, unwrap_or, length, take, get_or}
use Rattle.std.specs.List.{AllByRecursion}
use Rattle.std.specs.Map.{lookup}
use Rattle.std.specs.Ordering.{is_eq, eq_by_cmp}
use Rattle.std.specs.declared.cmp.Ordering.TheVariants.{Less}
use Rattle.std.proofs.lemmas.List.{append-nil, map-append, take_more}
use Rattle.dg_values.specs.Ascending.{Ascends}
use Rattle.dg_values.specs.Order.{posting_cmp}
use Rattle.dg_values.specs.declared.value.Posting.{Posting}
use Rattle.dg_sets.proofs.Sets.{is_one}
use Rattle.dg_sets.proofs.MadeOrders.{total_from}
use Rattle.dg_delta.specs.Ops.{AreOps, op_cmp, after_ops, changes_between}
use Rattle.dg_delta.specs.declared.op.Op.{Op}
use Rattle.dg_keys.specs.declared.key.Key.{Key}
use Rattle.dg_keys.specs.declared.record.Part.{Part}
use Rattle.dg_keys.specs.Keys.{key_cmp, part_cmp, ops_at, AreParts}
use Rattle.dg_keys.specs.KeyOrder.{key_order}
use Rattle.dg_pages.specs.Entries.{with_entry, without_entry, changed, changed_all, IsMap}
use Rattle.dg_pages.specs.Paged.{joined, item_at}
use Rattle.dg_pages.proofs.RunLemmas.{map_changes}
use Rattle.dg_pages.proofs.SortLemmas.{entry_at, made, last_said, at_changes}
use Rattle.dg_pages.proofs.Cases.{by_order}
use Rattle.dg_schema.specs.declared.definition.PredDef.{PredDef}
use Rattle.dg_graph.specs.declared.change.Triple.{Triple}
use Rattle.dg_graph.specs.declared.change.Change.{Change}
use Rattle.dg_graph.specs.Graphs.{triple_cmp, after_changes, fits}
use Rattle.dg_graph.specs.Changes as changes
use Rattle.dg_graph.proofs.GraphLaws.{changes_ascend}
use Rattle.dg_zero.specs.Listings.{listing, AreGainsAndLosses}
use Rattle.dg_edges.specs.Deltas.{AreFitting}
use Rattle.dg_edges.proofs.PartLaws.{all_joined}
use Rattle.dg_group.proofs.Leads.{between_leads, listing_ascends}
use Rattle.dg_group.proofs.Lists.{none_at, first_at}
use Rattle.dg_txn.specs.Gains.{parts_from, entries_from, composed, some_ops, change_by, parts_after}
use Rattle.dg_txn.specs.Own.{AreOwn}
use Rattle.dg_txn.proofs.ComposedOps.{composed_ascends, composed_leads}

abbrev Entries : Type 0
Entries = List (Key × List Op)

-- ---- pages of entries

item_there : (pages : List Entries) (at : ℕ) (page : Entries) → item_at at pages ≡ Some page → (at < length pages) × (get_or pages at page ≡ page)
item_there [] at page e = absurd (cc)
item_there (p ∷ ps) zero page e = (omega arith, cc)
item_there (p ∷ ps) (suc at) page e = let r = item_there ps at page e in (omega (arith, r.0), r.1)

pub no_item : (pages : List Entries) (at : ℕ) → item_at at pages ≡ None → at < length pages → ⊥
no_item [] at e lt = absurd (omega (arith, lt))
no_item (p ∷ ps) zero e lt = cc
no_item (p ∷ ps) (suc at) e lt = no_item ps at e (omega (arith, lt))

joined_last : (ps : List Entries) (page : Entries) → joined (ps ++ page ∷ []) ≡ joined ps ++ page
joined_last [] page = append-nil page
joined_last (p ∷ ps) page = ap (λ (es : Entries). p ++ es) (joined_last ps page) ∙ sym (append_assoc p (joined ps) page)

pub page_more : (pages : List Entries) (at : ℕ) (page : Entries) → item_at at pages ≡ Some page → parts_from (joined (take at pages)) ++ parts_from page ≡ parts_from (joined (take (at + 1) pages))
page_more pages at page e =
    let there = item_there pages at page e in
    let one : take (at + 1) pages ≡ take at pages ++ page ∷ [] = take_more pages at page there.0 ∙ ap (λ (p : Entries). take at pages ++ p ∷ []) there.1 in
    sym (map-append (λ (e : Key × List Op). record { key = e.0; ops = e.1 }) (joined (take at pages)) page)
    ∙ ap parts_from (sym (joined_last (take at pages) page) ∙ ap joined (sym one))

-- ---- entries and parts

pub entries_back : (es : Entries) → entries_from (parts_from es) ≡ es
entries_back [] = refl
entries_back (e ∷ es) = ap (λ (rest : Entries). e ∷ rest) (entries_back es)

pub parts_back : (ps : List Part) → parts_from (entries_from ps) ≡ ps
parts_back [] = refl
parts_back (p ∷ ps) = ap (λ (rest : List Part). p ∷ rest) (parts_back ps)

above_parts : (k : Key) (es : Entries) → AllByRecursion (λ e. key_cmp k e.0 ≡ Less) es → AllByRecursion (λ (p : Part). key_cmp k p.key ≡ Less) (parts_from es)
above_parts k [] a = tt
above_parts k (e ∷ es) a = (a.0, above_parts k es a.1)

above_entries : (k : Key) (ps : List Part) → AllByRecursion (λ (p : Part). key_cmp k p.key ≡ Less) ps → AllByRecursion (λ e. key_cmp k e.0 ≡ Less) (entries_from ps)
above_entries k [] a = tt
above_entries k (p ∷ ps) a = (a.0, above_entries k ps a.1)

parts_ascend : (es : Entries) → IsMap key_cmp es → Ascends part_cmp (parts_from es)
parts_ascend [] a = tt
parts_ascend (e ∷ es) a = (above_parts e.0 es a.0, parts_ascend es a.1)

pub entries_ascend : (ps : List Part) → Ascends part_cmp ps → IsMap key_cmp (entries_from ps)
entries_ascend [] a = tt
entries_ascend (p ∷ ps) a = (above_entries p.key ps a.0, entries_ascend ps a.1)

each_part : (P : List Op → Type 0) (es : Entries) → AllByRecursion (λ e. P e.1) es → AllByRecursion (λ (p : Part). P p.ops) (parts_from es)
each_part P [] a = tt
each_part P (e ∷ es) a = (a.0, each_part P es a.1)

each_entry : (P : List Op → Type 0) (ps : List Part) → AllByRecursion (λ (p : Part). P p.ops) ps → AllByRecursion (λ e. P e.1) (entries_from ps)
each_entry P [] a = tt
each_entry P (p ∷ ps) a = (a.0, each_entry P ps a.1)

-- ---- the operations at a key

-- those of an entry, or none
abbrev ops_of : Option (Key × List Op) → List Op
ops_of None = []
ops_of (Some e) = e.1

other_at : (p : Part) (ps : List Part) (key : Key) → is_eq (key_cmp p.key key) ≡ false → ops_at (p ∷ ps) key ≡ ops_at ps key
other_at p ps key e = rw e refl

turned_apart : (a b : Key) → is_eq (key_cmp a b) ≡ false → is_eq (key_cmp b a) ≡ false
turned_apart a b e = by (is_eq (key_cmp b a)) refl
  where
    by : (v : Bool) → is_eq (key_cmp b a) ≡ v → v ≡ false
    by false q = refl
    by true q =
        let same : b ≡ a = is_one key_cmp key_order b a q in
        let both : is_eq (key_cmp a b) ≡ true = (λ i. is_eq (key_cmp (sym same i) (same i))) ∙ q in
        sym both ∙ e

ops_in : (es : Entries) (key : Key) → IsMap key_cmp es → ops_at (parts_from es) key ≡ ops_of (entry_at key_cmp key es)
ops_in [] key m = refl
ops_in (e ∷ es) key m = by (is_eq (key_cmp key e.0)) refl (ops_in es key m.1)
  where
    first : Part
    first = record { key = e.0; ops = e.1 }

    by : (v : Bool) → is_eq (key_cmp key e.0) ≡ v → ops_at (parts_from es) key ≡ ops_of (entry_at key_cmp key es) → ops_at (first ∷ parts_from es) key ≡ ops_of (cond v (Some e) (entry_at key_cmp key es))
    by true q rest = ap (ops_at (first ∷ parts_from es)) (is_one key_cmp key_order key e.0 q) ∙ first_at first (parts_from es) (above_parts e.0 es m.0)
    by false q rest = other_at first (parts_from es) key (turned_apart key e.0 q) ∙ rest

found_in : (es : Entries) (key : Key) → unwrap_or (lookup (eq_by_cmp key_cmp key) es) [] ≡ ops_of (entry_at key_cmp key es)
found_in [] key = refl
found_in (e ∷ es) key = by (is_eq (key_cmp key e.0)) (found_in es key)
  where
    by : (v : Bool) → unwrap_or (lookup (eq_by_cmp key_cmp key) es) [] ≡ ops_of (entry_at key_cmp key es) → unwrap_or (cond v (Some e.1) (lookup (eq_by_cmp key_cmp key) es)) [] ≡ ops_of (cond v (Some e) (entry_at key_cmp key es))
    by true rest = refl
    by false rest = rest

pub looked_up : (es : Entries) (key : Key) → AreParts (parts_from es) → unwrap_or (lookup (eq_by_cmp key_cmp key) es) [] ≡ ops_at (parts_from es) key
looked_up es key a =
    found_in es key ∙ sym (ops_in es key (subst (IsMap key_cmp) (entries_back es) (entries_ascend (parts_from es) a.ascend)))

pub ops_ascend : (ps : List Part) (key : Key) → AreParts ps → Ascends op_cmp (ops_at ps key)
ops_ascend [] key a = tt
ops_ascend (p ∷ ps) key a = by (is_eq (key_cmp p.key key)) refl (ops_ascend ps key (record { ascend = a.ascend.1; each = a.each.1 }))
  where
    by : (v : Bool) → is_eq (key_cmp p.key key) ≡ v → Ascends op_cmp (ops_at ps key) → Ascends op_cmp (ops_at (p ∷ ps) key)
    by true q rest =
        let same : p.key ≡ key = is_one key_cmp key_order p.key key q in
        subst (λ (k : Key). Ascends op_cmp (ops_at (p ∷ ps) k)) same (subst (Ascends op_cmp) (sym (first_at p ps a.ascend.0)) a.each.0.ascend)
    by false q rest = subst (Ascends op_cmp) (sym (other_at p ps key q)) rest

-- ---- what the changes of a step say

module _ (own : List Part) where
  -- the operations at a key where a step has these, and it had those
  abbrev answer : Key → List Op → List Op → List Op
  answer key [] was = was
  answer key (op ∷ ops) was = composed (ops_at own key) (op ∷ ops)

  ops_made : (key : Key) (ops : List Op) → ops_of (made key_cmp (key, some_ops ops)) ≡ ops
  ops_made key [] = refl
  ops_made key (op ∷ ops) = refl

  some_answer : (key : Key) (ops was : List Op) → AreOps ops → composed (ops_at own key) ops ≡ answer key ops was
  some_answer key [] was a = absurd (a.some refl)
  some_answer key (op ∷ ops) was a = refl

  said : (step : List Part) (key : Key) (was : Option (Key × List Op)) → Ascends part_cmp step → AllByRecursion (λ (p : Part). AreOps p.ops) step → ops_of (last_said key_cmp key (map (change_by own) step) was) ≡ answer key (ops_at step key) (ops_of was)
  said [] key was a each = refl
  said (p ∷ step) key was a each = by (is_eq (key_cmp key p.key)) refl (λ w. said step key w a.1 each.1)
    where
      by : (v : Bool) → is_eq (key_cmp key p.key) ≡ v
          → ((w : Option (Key × List Op)) → ops_of (last_said key_cmp key (map (change_by own) step) w) ≡ answer key (ops_at step key) (ops_of w))
          → ops_of (last_said key_cmp key (map (change_by own) step) (cond v (made key_cmp (change_by own p)) was)) ≡ answer key (ops_at (p ∷ step) key) (ops_of was)
      by true q rest =
          let same : key ≡ p.key = is_one key_cmp key_order key p.key q in
          let none : ops_at step key ≡ [] = ap (ops_at step) same ∙ none_at p.key step a.0 in
          let whole : ops_at (p ∷ step) key ≡ p.ops = ap (ops_at (p ∷ step)) same ∙ first_at p step a.0 in
          rest (made key_cmp (change_by own p))
          ∙ (ap (λ (ops : List Op). answer key ops (ops_of (made key_cmp (change_by own p)))) none
          ∙ (ops_made p.key (composed (ops_at own p.key) p.ops)
          ∙ (ap (λ (k : Key). composed (ops_at own k) p.ops) (sym same)
          ∙ (some_answer key p.ops (ops_of was) each.0 ∙ ap (λ (ops : List Op). answer key ops (ops_of was)) (sym whole)))))
      by false q rest = rest was ∙ ap (λ (ops : List Op). answer key ops (ops_of was)) (sym (other_at p step key (turned_apart key p.key q)))

  said_of_all : (step : List Part) (key : Key) → AreParts own → AreParts step → ops_at (parts_after own step) key ≡ answer key (ops_at step key) (ops_at own key)
  said_of_all step key o s =
      let map_is : IsMap key_cmp (entries_from own) = entries_ascend own o.ascend in
      ops_in (changed_all key_cmp (entries_from own) (map (change_by own) step)) key (map_changes key_cmp (total_from key_cmp key_order) (map (change_by own) step) (entries_from own) map_is)
      ∙ (ap ops_of (at_changes (total_from key_cmp key_order) key (map (change_by own) step) (entries_from own) map_is)
      ∙ (said step key (entry_at key_cmp key (entries_from own)) s.ascend s.each
      ∙ ap (answer key (ops_at step key)) (sym (ops_in (entries_from own) key map_is) ∙ ap (λ (ps : List Part). ops_at ps key) (parts_back own))))

-- one more part, and what it makes
pub change_more : {C : Type 0} (seen : C → Key × Option (List Op)) (own step : List Part) (cs : List C) (c : C) (k : ℕ) (part : Part) → k < length step → part ≡ get_or step k part → map seen cs ≡ map (change_by own) (take k step) → seen c ≡ change_by own part → map seen (cs ++ c ∷ []) ≡ map (change_by own) (take (k + 1) step)
change_more seen own step cs c k part lt is so_far one =
    map-append seen cs (c ∷ [])
    ∙ ((λ i. so_far i ++ one i ∷ [])
    ∙ (sym (map-append (change_by own) (take k step) (part ∷ []))
    ∙ ap (map (change_by own)) (ap (λ (p : Part). take k step ++ p ∷ []) is ∙ sym (take_more step k part lt))))

-- ---- they are parts

module _ (P : List Op → Type 0) where
  all_put : (key : Key) (ops : List Op) (es : Entries) → P ops → AllByRecursion (λ e. P e.1) es → AllByRecursion (λ e. P e.1) (with_entry key_cmp key ops es)
  all_put key ops [] p a = (p, tt)
  all_put key ops (e ∷ es) p a = by_order (key_cmp key e.0) (λ l. rw l (p, a)) (λ l. rw l (p, a.1)) (λ l. rw l (a.0, all_put key ops es p a.1))

  all_taken : (key : Key) (es : Entries) → AllByRecursion (λ e. P e.1) es → AllByRecursion (λ e. P e.1) (without_entry key_cmp key es)
  all_taken key [] a = tt
  all_taken key (e ∷ es) a = by_order (key_cmp key e.0) (λ l. rw l a) (λ l. rw l a.1) (λ l. rw l (a.0, all_taken key es a.1))

  all_changed : (es : Entries) (c : Key × Option (List Op)) → IfSome c.1 P → AllByRecursion (λ e. P e.1) es → AllByRecursion (λ e. P e.1) (changed key_cmp es c)
  all_changed es (key, None) p a = all_taken key es a
  all_changed es (key, Some ops) p a = all_put key ops es p a

  all_after : (cs : List (Key × Option (List Op))) (es : Entries) → AllByRecursion (λ c. IfSome c.1 P) cs → AllByRecursion (λ e. P e.1) es → AllByRecursion (λ e. P e.1) (changed_all key_cmp es cs)
  all_after [] es p a = a
  all_after (c ∷ cs) es p a = all_after cs (changed key_cmp es c) p.1 (all_changed es c p.0 a)

some_are : (ops : List Op) → Ascends op_cmp ops → IfSome (some_ops ops) AreOps
some_are [] a = tt
some_are (op ∷ ops) a = record { some = λ e. cc; ascend = a }

pub parts_again : (own step : List Part) → AreParts own → AreParts step → AreParts (parts_after own step)
parts_again own step o s =
    record {
      ascend = parts_ascend (changed_all key_cmp (entries_from own) (map (change_by own) step)) (map_changes key_cmp (total_from key_cmp key_order) (map (change_by own) step) (entries_from own) (entries_ascend own o.ascend));
      each = each_part AreOps (changed_all key_cmp (entries_from own) (map (change_by own) step)) (all_after AreOps (map (change_by own) step) (entries_from own) (each_change step s.each) (each_entry AreOps own o.each));
    }
  where
    each_change : (ps : List Part) → AllByRecursion (λ (p : Part). AreOps p.ops) ps → AllByRecursion (λ c. IfSome c.1 AreOps) (map (change_by own) ps)
    each_change [] a = tt
    each_change (p ∷ ps) a = (some_are (composed (ops_at own p.key) p.ops) (composed_ascends (ops_at own p.key) p.ops (ops_ascend own p.key o)), each_change ps a.1)

-- ---- they lead from the start to where the step leads

stayed : (s m a : List Posting) (own : List Op) → Ascends posting_cmp m → Ascends posting_cmp a → own ≡ changes_between s m → [] ≡ changes_between m a → own ≡ changes_between s a
stayed s m a own ma aa o t =
    let same : m ≡ a = ap (after_ops m) t ∙ between_leads m a ma aa in
    o ∙ ap (changes_between s) same

after_both : (schema : List PredDef) (graph : List Triple) (cs ds : List Change) → after_changes schema (after_changes schema graph cs) ds ≡ after_changes schema graph (cs ++ ds)
after_both schema graph [] ds = refl
after_both schema graph (c ∷ cs) ds = after_both schema (after_changes schema graph (c ∷ [])) cs ds

pub own_after : (schema : List PredDef) (base : List Triple) (own more : List Change) (parts step : List Part) → AreOwn schema base own parts → AreFitting schema more → AreGainsAndLosses schema (after_changes schema base own) schema (after_changes schema (after_changes schema base own) more) step → AreOwn schema base (own ++ more) (parts_after parts step)
own_after schema base own more parts step a fit g =
    record {
      lawful = a.lawful;
      fitting = all_joined (λ c. fits schema (changes.changed c) ≡ true) own more a.fitting fit;
      exact = record {
        parts_are = parts_again parts step a.exact.parts_are g.parts_are;
        exact = λ key. said_of_all parts step key a.exact.parts_are g.parts_are ∙ leads key;
      };
    }
  where
    mid : List Triple
    mid = after_changes schema base own

    end : List Triple
    end = after_changes schema mid more

    whole : end ≡ after_changes schema base (own ++ more)
    whole = after_both schema base own more

    mid_ascends : Ascends triple_cmp mid
    mid_ascends = changes_ascend schema base own a.lawful.ascend

    leads : (key : Key) → answer parts key (ops_at step key) (ops_at parts key) ≡ changes_between (listing schema base key) (listing schema (after_changes schema base (own ++ more)) key)
    leads key =
        by (ops_at step key) (g.exact key)
        ∙ ap (λ (t : List Triple). changes_between (listing schema base key) (listing schema t key)) whole
      where
        s : Ascends posting_cmp (listing schema base key)
        s = listing_ascends schema base key a.lawful.ascend

        m : Ascends posting_cmp (listing schema mid key)
        m = listing_ascends schema mid key mid_ascends

        e : Ascends posting_cmp (listing schema end key)
        e = listing_ascends schema end key (changes_ascend schema mid more mid_ascends)

        by : (ops : List Op) → ops ≡ changes_between (listing schema mid key) (listing schema end key) → answer parts key ops (ops_at parts key) ≡ changes_between (listing schema base key) (listing schema end key)
        by [] t = stayed (listing schema base key) (listing schema mid key) (listing schema end key) (ops_at parts key) m e (a.exact.exact key) t
        by (op ∷ ops) t = composed_leads (listing schema base key) (listing schema mid key) (listing schema end key) (ops_at parts key) (op ∷ ops) s (a.exact.exact key) t
