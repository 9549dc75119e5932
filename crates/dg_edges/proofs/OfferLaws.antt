-- An offer of the parts and keys of changes is sound, and holds at a later graph.
use Rattle.std.proofs.Common.{◌≡◌, ◌≢◌, ℕ, Bool, true, false, cond, not, List, [], ◌∷◌, ◌++◌, Option, Some, None, map, flat_map, refl, ap, subst, sym, ◌∙◌}
use Rattle.std.specs.Prelude.{◌||◌, filter}
use Rattle.std.specs.List.{AllByRecursion}
use Rattle.std.proofs.lemmas.List.{map-append}
use Rattle.std.proofs.lemmas.Bool.{both_ways}
use Rattle.std.specs.Ordering.{is_eq}
use Rattle.dg_values.specs.Order.{text_cmp, posting_cmp}
use Rattle.dg_values.specs.Ascending.{has, ascending}
use Rattle.dg_values.specs.declared.kind.Tokenizer.{Tokenizer}
use Rattle.dg_values.specs.declared.value.Posting.{Posting}
use Rattle.dg_values.proofs.OrderLaws.{posting_order}
use Rattle.dg_sets.proofs.MadeOrders.{text_order}
use Rattle.dg_sets.proofs.Sets.{is_one, is_itself, at, has_more, has_joined, all_with}
use Rattle.dg_delta.specs.declared.op.Op.{Op}
use Rattle.dg_delta.specs.declared.op.Op.TheVariants as ops
use Rattle.dg_delta.specs.Ops.{posting_of}
use Rattle.dg_zero.proofs.Operations.{Agrees, between_agrees}
use Rattle.dg_edges.proofs.OpLaws.{Differs, between_differs, between_covers}
use Rattle.dg_schema.specs.declared.definition.PredDef.{PredDef}
use Rattle.dg_schema.specs.Definitions.{definition_of, is_single, is_single_by}
use Rattle.dg_graph.specs.declared.change.Triple.{Triple}
use Rattle.dg_graph.specs.Lookups.{tokens_of_object}
use Rattle.dg_graph.specs.declared.change.Change.{Change}
use Rattle.dg_graph.specs.declared.change.Change.TheVariants as changes
use Rattle.dg_graph.specs.Graphs.{triple_cmp, fits, fits_by, after_change, after_changes, IsLawful}
use Rattle.dg_graph.specs.Changes.{has_triple, there_after_all, changed, AllFit}
use Rattle.dg_graph.proofs.GraphLaws.{triple_order, single_from, known_by_triples, changes_by_triple, changes_ascend, stays_lawful}
use Rattle.dg_graph.proofs.ObjectLaws.{is_triple}
use Rattle.dg_keys.specs.declared.key.Key.{Key}
use Rattle.dg_keys.specs.declared.key.Key.TheVariants as keys
use Rattle.dg_keys.specs.declared.conflict.ConflictKey.{ConflictKey}
use Rattle.dg_keys.specs.declared.conflict.ConflictKey.TheVariants as conflicts
use Rattle.dg_keys.specs.declared.record.Part.{Part}
use Rattle.dg_keys.specs.Keys.{key_cmp, pred_of, ops_at}
use Rattle.dg_zero.specs.Worlds.{change_of, changes_at, changes_of}
use Rattle.dg_keys.specs.Conflicts.{conflict_cmp}
use Rattle.dg_zero.specs.Listings.{listing, AreGainsAndLosses, triple_of, touched, keys_of_object, keys_of_token, keys_of_change, keys_of_changes}
use Rattle.dg_keys.specs.KeyOrder.{key_order, conflict_order}
use Rattle.dg_edges.specs.Deltas.{gains, data_key, data_conflict, data_conflicts, preds_of, AreFitting}
use Rattle.dg_edges.specs.Laws.{DeltasLead, ChangesDoAsParts, Done, IsKeyed, HasNone, after_done, OthersLeave, CommitsDoAsChanges}
use Rattle.dg_edges.proofs.PartLaws.{all_joined, own_ops}
use Rattle.dg_edges.proofs.AgreeLaws.{Leads, lead_there, all_apart}
use Rattle.dg_edges.proofs.EdgeLaws.{listed_by}

-- ---- the parts as changes: each leads to the new graph, and none leaves its triple as it was

-- the change speaks of a triple that differs
pub record IsOfDifference (graph goal : List Triple) (change : Change) : Type 0 where
  pub leads : Leads goal change
  pub differs : has_triple graph (changed change) ≡ has_triple goal (changed change) → ⊥

op_leads : (schema : List PredDef) (graph goal : List Triple) (p : List ℕ) (s : ℕ) (op : Op) → IsLawful schema graph → IsLawful schema goal → Agrees (listing schema goal (keys.Data p s)) op → Differs (listing schema graph (keys.Data p s)) (listing schema goal (keys.Data p s)) op → IsOfDifference graph goal (change_of p s op)
op_leads schema graph goal p s (ops.Set o) l m a d = record {
  leads = sym (listed_by schema goal p s o m) ∙ a;
  differs = λ e. d (listed_by schema graph p s o l ∙ (e ∙ sym (listed_by schema goal p s o m)));
}
op_leads schema graph goal p s (ops.Del o) l m a d = record {
  leads = sym (listed_by schema goal p s o m) ∙ a;
  differs = λ e. d (listed_by schema graph p s o l ∙ (e ∙ sym (listed_by schema goal p s o m)));
}

ops_lead : (schema : List PredDef) (graph goal : List Triple) (p : List ℕ) (s : ℕ) (os : List Op) → IsLawful schema graph → IsLawful schema goal → AllByRecursion (Agrees (listing schema goal (keys.Data p s))) os → AllByRecursion (Differs (listing schema graph (keys.Data p s)) (listing schema goal (keys.Data p s))) os → AllByRecursion (IsOfDifference graph goal) (map (change_of p s) os)
ops_lead schema graph goal p s [] l m a d = tt
ops_lead schema graph goal p s (op ∷ os) l m a d = (op_leads schema graph goal p s op l m a.0 d.0, ops_lead schema graph goal p s os l m a.1 d.1)

pub key_leads : (schema : List PredDef) (graph goal : List Triple) (key : Key) → IsLawful schema graph → IsLawful schema goal → AllByRecursion (IsOfDifference graph goal) (changes_at key (gains schema graph goal key))
key_leads schema graph goal (keys.Data p s) l m = ops_lead schema graph goal p s (gains schema graph goal (keys.Data p s)) l m (between_agrees (listing schema graph (keys.Data p s)) (listing schema goal (keys.Data p s))) (between_differs (listing schema graph (keys.Data p s)) (listing schema goal (keys.Data p s)))
key_leads schema graph goal (keys.Index p t) l m = tt
key_leads schema graph goal (keys.Reverse p t) l m = tt
key_leads schema graph goal (keys.Count p t) l m = tt
key_leads schema graph goal (keys.RCount p t) l m = tt

parts_differ : (graph goal : List Triple) (parts : List Part) → AllByRecursion (λ p. AllByRecursion (IsOfDifference graph goal) (changes_at p.key p.ops)) parts → AllByRecursion (IsOfDifference graph goal) (changes_of parts)
parts_differ graph goal [] a = tt
parts_differ graph goal (part ∷ parts) a = all_joined (IsOfDifference graph goal) (changes_at part.key part.ops) (changes_of parts) a.0 (parts_differ graph goal parts a.1)

-- the graph after changes is lawful
pub all_fit : (schema : List PredDef) (cs : List Change) → AreFitting schema cs → AllFit schema cs
all_fit schema [] f = tt
all_fit schema (changes.Set t ∷ cs) f = (f.0, all_fit schema cs f.1)
all_fit schema (changes.Del t ∷ cs) f = (tt, all_fit schema cs f.1)

pub lawful_goal : (schema : List PredDef) (graph : List Triple) (cs : List Change) → AreFitting schema cs → IsLawful schema graph → IsLawful schema (after_changes schema graph cs)
lawful_goal schema graph cs f l = stays_lawful schema graph cs (all_fit schema cs f) l

-- parts that are gains and losses are of triples that differ
pub gains_differ : (schema : List PredDef) (graph goal : List Triple) (parts : List Part) → IsLawful schema graph → IsLawful schema goal → AreGainsAndLosses schema graph schema goal parts → AllByRecursion (IsOfDifference graph goal) (changes_of parts)
gains_differ schema graph goal parts l m e =
    parts_differ graph goal parts
    (all_with (λ p. ops_at parts p.key ≡ p.ops) (λ p. AllByRecursion (IsOfDifference graph goal) (changes_at p.key p.ops)) parts
    (λ p own. subst (λ (os : List Op). AllByRecursion (IsOfDifference graph goal) (changes_at p.key os)) (sym (e.exact p.key) ∙ own) (key_leads schema graph goal p.key l m))
    (own_ops parts e.parts_are.ascend))

-- ---- each triple that differs has a change

op_covers : (p : List ℕ) (s : ℕ) (u : Triple) (op : Op) → p ≡ u.p → s ≡ u.s → is_eq (triple_cmp (changed (change_of p s op)) u) ≡ is_eq (posting_cmp (posting_of op) u.o)
op_covers p s u (ops.Set o) e f = is_triple (record { s = s; p = p; o = o }) u e f
op_covers p s u (ops.Del o) e f = is_triple (record { s = s; p = p; o = o }) u e f

ops_cover : (p : List ℕ) (s : ℕ) (u : Triple) (os : List Op) → p ≡ u.p → s ≡ u.s → has triple_cmp (map changed (map (change_of p s) os)) u ≡ has posting_cmp (map posting_of os) u.o
ops_cover p s u [] e f = refl
ops_cover p s u (op ∷ os) e f = λ i. op_covers p s u op e f i || ops_cover p s u os e f i

parts_cover : (parts : List Part) (u : Triple) → has posting_cmp (map posting_of (ops_at parts (keys.Data u.p u.s))) u.o ≡ true → has triple_cmp (map changed (changes_of parts)) u ≡ true
parts_cover [] u c = absurd (both_ways false refl c)
parts_cover (part ∷ parts) u c =
    (ap (λ (ts : List Triple). has triple_cmp ts u) (map-append changed (changes_at part.key part.ops) (changes_of parts))
    ∙ has_joined triple_cmp triple_order (map changed (changes_at part.key part.ops)) (map changed (changes_of parts)) u)
    ∙ by (is_eq (key_cmp part.key (keys.Data u.p u.s))) refl c (λ k. parts_cover parts u k)
  where
    later : (b c : Bool) → c ≡ true → (b || c) ≡ true
    later true c e = refl
    later false c e = e

    kept : (a b x y : Bool) → x ≡ a → (y ≡ true → b ≡ true) → (x || y) ≡ true → (a || b) ≡ true
    kept true b x y e f h = refl
    kept false b true y e f h = absurd (both_ways true e refl)
    kept false b false y e f h = f h

    by : (v : Bool) → is_eq (key_cmp part.key (keys.Data u.p u.s)) ≡ v → has posting_cmp (map posting_of (flat_map (λ p. p.ops) (cond v (part ∷ filter (λ p. is_eq (key_cmp p.key (keys.Data u.p u.s))) parts) (filter (λ p. is_eq (key_cmp p.key (keys.Data u.p u.s))) parts)))) u.o ≡ true → (has posting_cmp (map posting_of (ops_at parts (keys.Data u.p u.s))) u.o ≡ true → has triple_cmp (map changed (changes_of parts)) u ≡ true) → (has triple_cmp (map changed (changes_at part.key part.ops)) u || has triple_cmp (map changed (changes_of parts)) u) ≡ true
    by true e h rest =
        let same : part.key ≡ keys.Data u.p u.s = is_one key_cmp key_order part.key (keys.Data u.p u.s) e in
        let split : has posting_cmp (map posting_of (part.ops ++ ops_at parts (keys.Data u.p u.s))) u.o ≡ (has posting_cmp (map posting_of part.ops) u.o || has posting_cmp (map posting_of (ops_at parts (keys.Data u.p u.s))) u.o) =
        ap (λ (os : List Posting). has posting_cmp os u.o) (map-append posting_of part.ops (ops_at parts (keys.Data u.p u.s))) ∙ has_joined posting_cmp posting_order (map posting_of part.ops) (map posting_of (ops_at parts (keys.Data u.p u.s))) u.o in
        kept (has triple_cmp (map changed (changes_at part.key part.ops)) u) (has triple_cmp (map changed (changes_of parts)) u) (has posting_cmp (map posting_of part.ops) u.o) (has posting_cmp (map posting_of (ops_at parts (keys.Data u.p u.s))) u.o)
        (sym (ap (λ (l : Key). has triple_cmp (map changed (changes_at l part.ops)) u) same ∙ ops_cover u.p u.s u part.ops refl refl)) rest (sym split ∙ h)
    by false e h rest = later (has triple_cmp (map changed (changes_at part.key part.ops)) u) (has triple_cmp (map changed (changes_of parts)) u) (rest h)

gains_cover : (schema : List PredDef) (graph goal : List Triple) (parts : List Part) → IsLawful schema graph → IsLawful schema goal → AreGainsAndLosses schema graph schema goal parts → (u : Triple) → (has_triple graph u ≡ has_triple goal u → ⊥) → has triple_cmp (map changed (changes_of parts)) u ≡ true
gains_cover schema graph goal parts l m e u ne =
    parts_cover parts u
    (ap (λ (os : List Op). has posting_cmp (map posting_of os) u.o) (e.exact (keys.Data u.p u.s))
    ∙ between_covers (listing schema graph (keys.Data u.p u.s)) (listing schema goal (keys.Data u.p u.s)) u.o
    (λ same. ne (sym (listed_by schema graph u.p u.s u.o l) ∙ (same ∙ listed_by schema goal u.p u.s u.o m))))

all_lead : (graph goal : List Triple) (ds : List Change) → AllByRecursion (IsOfDifference graph goal) ds → AllByRecursion (Leads goal) ds
all_lead graph goal ds a = all_with (IsOfDifference graph goal) (Leads goal) ds (λ d i. i.leads) a

pub deltas_lead : DeltasLead
deltas_lead schema graph cs parts fit l e =
    let m = lawful_goal schema graph cs fit l in
    lead_there schema graph (after_changes schema graph cs) (changes_of parts) l.ascend m.ascend (single_from schema (after_changes schema graph cs) m.single)
    (all_lead graph (after_changes schema graph cs) (changes_of parts) (gains_differ schema graph (after_changes schema graph cs) parts l m e))
    (λ u ne. gains_cover schema graph (after_changes schema graph cs) parts l m e u ne)

-- ---- soundness

-- a change of a triple that differs fits
pub differing_fits : (schema : List PredDef) (graph goal : List Triple) (t : Triple) → IsLawful schema graph → IsLawful schema goal → (has_triple graph t ≡ has_triple goal t → ⊥) → fits schema t ≡ true
differing_fits schema graph goal t l m ne = by (has_triple graph t) (has_triple goal t) refl refl
  where
    by : (a b : Bool) → has_triple graph t ≡ a → has_triple goal t ≡ b → fits schema t ≡ true
    by true b e f = at triple_cmp triple_order (λ u. fits schema u ≡ true) graph t l.fit e
    by false true e f = at triple_cmp triple_order (λ u. fits schema u ≡ true) goal t m.fit f
    by false false e f = absurd (ne (e ∙ sym f))

-- and its key is among those of the changes
differing_keyed : (schema : List PredDef) (graph : List Triple) (cs : List Change) (t : Triple) → (has_triple graph t ≡ has_triple (after_changes schema graph cs) t → ⊥) → has conflict_cmp (data_conflicts schema cs) (data_conflict schema t) ≡ true
differing_keyed schema graph cs t ne = by (has conflict_cmp (data_conflicts schema cs) (data_conflict schema t)) refl
  where
    by : (v : Bool) → has conflict_cmp (data_conflicts schema cs) (data_conflict schema t) ≡ v → v ≡ true
    by true h = refl
    by false h = absurd (ne (sym (changes_by_triple schema graph cs t ∙ all_apart schema t (has_triple graph t) cs h)))

pub deltas_keyed : (schema : List PredDef) (graph : List Triple) (cs : List Change) (parts : List Part) → AreFitting schema cs → IsLawful schema graph → AreGainsAndLosses schema graph schema (after_changes schema graph cs) parts → AllByRecursion (λ d. has conflict_cmp (data_conflicts schema cs) (data_conflict schema (changed d)) ≡ true) (changes_of parts)
deltas_keyed schema graph cs parts fit l e =
    all_with (IsOfDifference graph (after_changes schema graph cs)) (λ d. has conflict_cmp (data_conflicts schema cs) (data_conflict schema (changed d)) ≡ true) (changes_of parts) (λ d i. differing_keyed schema graph cs (changed d) i.differs) (gains_differ schema graph (after_changes schema graph cs) parts l (lawful_goal schema graph cs fit l) e)

-- the same of the keys themselves
keyed : (schema : List PredDef) (P : ConflictKey → Type 0) (ds : List Change) → AllByRecursion (λ d. P (data_conflict schema (changed d))) ds → AllByRecursion P (data_conflicts schema ds)
keyed schema P [] a = tt
keyed schema P (d ∷ ds) a = (a.0, keyed schema P ds a.1)

-- predicates
pub pred_named : (cs : List Change) (key : Key) → has key_cmp (map data_key cs) key ≡ true → has text_cmp (map (λ c. (changed c).p) cs) (pred_of key) ≡ true
pred_named [] key h = absurd (cc)
pred_named (c ∷ cs) key h = by (is_eq (key_cmp (data_key c) key)) refl h (λ k. pred_named cs key k)
  where
    first : (b c : Bool) → b ≡ true → (b || c) ≡ true
    first true c e = refl
    first false c e = absurd (cc)

    later : (b c : Bool) → c ≡ true → (b || c) ≡ true
    later true c e = refl
    later false c e = e

    by : (v : Bool) → is_eq (key_cmp (data_key c) key) ≡ v → (v || has key_cmp (map data_key cs) key) ≡ true → (has key_cmp (map data_key cs) key ≡ true → has text_cmp (map (λ d. (changed d).p) cs) (pred_of key) ≡ true) → (is_eq (text_cmp (changed c).p (pred_of key)) || has text_cmp (map (λ d. (changed d).p) cs) (pred_of key)) ≡ true
    by true e h rest =
        let same = ap pred_of (is_one key_cmp key_order (data_key c) key e) in
        first (is_eq (text_cmp (changed c).p (pred_of key))) (has text_cmp (map (λ d. (changed d).p) cs) (pred_of key)) (subst (λ (p : List ℕ). is_eq (text_cmp (changed c).p p) ≡ true) same (is_itself text_cmp text_order (changed c).p))
    by false e h rest = later (is_eq (text_cmp (changed c).p (pred_of key))) (has text_cmp (map (λ d. (changed d).p) cs) (pred_of key)) (rest h)

pub some_preds : (cs : List Change) → cs ≢ [] → preds_of cs ≢ []
some_preds [] n e = n refl
some_preds (c ∷ cs) n e =
    let h = has_more text_cmp text_order [] (map (λ d. (changed d).p) (c ∷ cs)) (changed c).p in
    let one = is_itself text_cmp text_order (changed c).p in
    let none : has text_cmp (preds_of (c ∷ cs)) (changed c).p ≡ false = ap (λ (ps : List (List ℕ)). has text_cmp ps (changed c).p) e in
    clash (is_eq (text_cmp (changed c).p (changed c).p)) (has text_cmp (map (λ d. (changed d).p) cs) (changed c).p) one (sym h ∙ none)
  where
    clash : (a b : Bool) → a ≡ true → (a || b) ≡ false → ⊥
    clash true b e f = cc
    clash false b e f = cc

-- ---- at a later graph

unkeyed : (schema : List PredDef) (ks : List ConflictKey) (key : ConflictKey) (ds : List Change) → has conflict_cmp ks key ≡ false → AllByRecursion (λ d. has conflict_cmp ks (data_conflict schema (changed d)) ≡ true) ds → has conflict_cmp (data_conflicts schema ds) key ≡ false
unkeyed schema ks key ds h a = by (has conflict_cmp (data_conflicts schema ds) key) refl
  where
    by : (v : Bool) → has conflict_cmp (data_conflicts schema ds) key ≡ v → v ≡ false
    by true e = absurd (both_ways (has conflict_cmp ks key) h (at conflict_cmp conflict_order (λ k. has conflict_cmp ks k ≡ true) (data_conflicts schema ds) key (keyed schema (λ k. has conflict_cmp ks k ≡ true) ds a) e))
    by false e = refl

pub changes_do_as_parts : ChangesDoAsParts
changes_do_as_parts schema graph later cs parts fit l m e agree =
    known_by_triples (after_changes schema later cs) (after_changes schema later (changes_of parts))
    (changes_ascend schema later cs m.ascend) (changes_ascend schema later (changes_of parts) m.ascend)
    (λ u. changes_by_triple schema later cs u ∙ (by u (has conflict_cmp (data_conflicts schema cs) (data_conflict schema u)) refl ∙ sym (changes_by_triple schema later (changes_of parts) u)))
  where
    by : (u : Triple) (v : Bool) → has conflict_cmp (data_conflicts schema cs) (data_conflict schema u) ≡ v → there_after_all schema u (has_triple later u) cs ≡ there_after_all schema u (has_triple later u) (changes_of parts)
    by u true h =
        let same = agree u h in
        let at_start : there_after_all schema u (has_triple graph u) cs ≡ there_after_all schema u (has_triple graph u) (changes_of parts) =
        sym (changes_by_triple schema graph cs u) ∙ (ap (λ (g : List Triple). has_triple g u) (sym (deltas_lead schema graph cs parts fit l e)) ∙ changes_by_triple schema graph (changes_of parts) u) in
        subst (λ (b : Bool). there_after_all schema u b cs ≡ there_after_all schema u b (changes_of parts)) same at_start
    by u false h = all_apart schema u (has_triple later u) cs h ∙ sym (all_apart schema u (has_triple later u) (changes_of parts) (unkeyed schema (data_conflicts schema cs) (data_conflict schema u) (changes_of parts) h (deltas_keyed schema graph cs parts fit l e)))

-- ---- what others commit

-- no key of theirs is a triple's
clear_of : (schema : List PredDef) (u : Triple) (cs : List Change) (d : Done) → has conflict_cmp (data_conflicts schema cs) (data_conflict schema u) ≡ true → IsKeyed schema d → HasNone schema cs d → has conflict_cmp (data_conflicts schema d.changes) (data_conflict schema u) ≡ false
clear_of schema u cs d h k none = by (has conflict_cmp (data_conflicts schema d.changes) (data_conflict schema u)) refl
  where
    by : (v : Bool) → has conflict_cmp (data_conflicts schema d.changes) (data_conflict schema u) ≡ v → v ≡ false
    by true e = absurd (both_ways (has conflict_cmp d.keys (data_conflict schema u)) (at conflict_cmp conflict_order (λ key. has conflict_cmp d.keys key ≡ false) (data_conflicts schema cs) (data_conflict schema u) none h) (at conflict_cmp conflict_order (λ key. has conflict_cmp d.keys key ≡ true) (data_conflicts schema d.changes) (data_conflict schema u) k.named e))
    by false e = refl

pub others_leave : OthersLeave
others_leave schema graph cs [] k none u h = refl
others_leave schema graph cs (d ∷ ds) k none u h =
    sym (changes_by_triple schema graph d.changes u ∙ all_apart schema u (has_triple graph u) d.changes (clear_of schema u cs d h k.0 none.0))
    ∙ others_leave schema (after_changes schema graph d.changes) cs ds k.1 none.1 u h

pub lawful_done : (schema : List PredDef) (graph : List Triple) (ds : List Done) → AllByRecursion (IsKeyed schema) ds → IsLawful schema graph → IsLawful schema (after_done schema graph ds)
lawful_done schema graph [] k l = l
lawful_done schema graph (d ∷ ds) k l = lawful_done schema (after_changes schema graph d.changes) ds k.1 (lawful_goal schema graph d.changes k.0.fitting l)

pub commits_do_as_changes : CommitsDoAsChanges
commits_do_as_changes schema graph cs parts others fit l e k none =
    changes_do_as_parts schema graph (after_done schema graph others) cs parts fit l (lawful_done schema graph others k l) e (others_leave schema graph cs others k none)
