-- What a legal history did to the graph since an active start, and that a clear verdict leaves changes what they were.
use Rattle.std.proofs.Common.{◌≡◌, ℕ, ◌+◌, ◌<◌, Bool, true, false, cond, not, List, [], ◌∷◌, ◌++◌, Option, Some, None, refl, ap, subst, sym, ◌∙◌, arith, inl, inr}
use Rattle.std.specs.Prelude.{◌==◌, ◌&&◌, ◌||◌, nat_lt, slice_get, option_map}
use mathlib.Core.Logic.{◌⊎◌}
use Rattle.std.specs.List.{AllByRecursion}
use Rattle.std.specs.declared.cmp.Ordering.{Ordering}
use Rattle.std.proofs.lemmas.List.Sums.{fold-append}
use Rattle.std.proofs.lemmas.Grind.{common_steps}
use Rattle.dg_values.specs.Ascending.{has}
use Rattle.dg_sets.proofs.Sets.{all_with, at, is_itself}
use Rattle.dg_schema.specs.declared.definition.PredDef.{PredDef}
use Rattle.dg_graph.specs.declared.change.Triple.{Triple}
use Rattle.dg_graph.specs.declared.change.Change.{Change}
use Rattle.dg_graph.specs.declared.change.Change.TheVariants as changes
use Rattle.dg_graph.specs.Graphs.{after_changes, IsLawful}
use Rattle.dg_graph.specs.Changes.{has_triple, there_after_all}
use Rattle.dg_graph.proofs.GraphLaws.{known_by_triples, changes_by_triple, changes_ascend}
use Rattle.dg_keys.specs.declared.conflict.ConflictKey.{ConflictKey}
use Rattle.dg_keys.specs.declared.record.Record.{Record}
use Rattle.dg_keys.specs.KeyOrder.{conflict_order}
use Rattle.dg_keys.specs.Conflicts.{conflict_cmp}
use Rattle.dg_oracle.specs.Commits as oracle
use Rattle.dg_oracle.specs.Verdicts as judged
use Rattle.dg_oracle.specs.declared.verdict.Verdict.{Verdict}
use Rattle.dg_oracle.specs.declared.verdict.Verdict.TheVariants as verdicts
use Rattle.dg_oracle.proofs.Clashes.{none_is}
use Rattle.dg_oracle.proofs.Oracles.{all_push}
use Rattle.dg_zero.specs.declared.entry.Entry.{Entry}
use Rattle.dg_zero.specs.declared.entry.Event.{Event}
use Rattle.dg_zero.specs.declared.entry.Event.TheVariants.{Begin, Commit, Refused, End, Alter}
use Rattle.dg_zero.specs.declared.entry.Reason.TheVariants.{Conflict}
use Rattle.dg_zero.specs.Counters.{drawn, next, Started, ended, active_after, active, is_active_of}
use Rattle.dg_zero.specs.Worlds.{World, world, world_after, world_at, schema, schema_at, graph_at, changes_of}
use Rattle.dg_zero.specs.Places.{tablets}
use Rattle.dg_zero.specs.Verdicts.{commits, commit_of, least_held, conflict, reason_by, verdict}
use Rattle.dg_zero.specs.Listings.{conflict_keys, keys_of_changes}
use Rattle.dg_zero.specs.Legal.{Fits, FitsCommit, IsLegal}
use Rattle.dg_zero.proofs.Histories.{next_push, active_push, commits_push, legal_push}
use Rattle.dg_zero.proofs.LawsOfHistories.{kept_from, anyone, world_push, world_at_push, no_more, present_is_last}
use Rattle.dg_zero.proofs.SchemasStay.{schemas_stay}
use Rattle.dg_zero.proofs.LawfulGraphs.{graphs_are_lawful}
use Rattle.dg_zero.proofs.Refusals.{named}
use Rattle.dg_edges.specs.Deltas.{data_conflict, data_conflicts}
use Rattle.dg_edges.specs.Laws.{Done, IsKeyed, HasNone, after_done, CommitsDoAsAsked}
use Rattle.dg_edges.proofs.AgreeLaws.{same_bools, all_apart}
use Rattle.dg_edges.proofs.AnyKeys.{declared, data_found}
use Rattle.dg_edges.proofs.OfferLaws.{others_leave, lawful_done, differing_fits}
use Rattle.dg_edges.proofs.PartsStay.{DifferAlike, both_alike, neither_changed}
use Rattle.dg_edges.proofs.SoundParts.{each_ascending, sound_keyed}

-- ---- a clear verdict: no commit above the start has one of the keys

clear_from : {K : Type 0} (cmp : K → K → Ordering) (cs : List (oracle.Commit K)) (start place : ℕ) (keys : List K) → judged.verdict_from cmp cs start place keys ≡ verdicts.Clear → AllByRecursion (judged.HasNoClash cmp cs start) keys
clear_from cmp cs start place [] e = tt
clear_from cmp cs start place (key ∷ keys) e =
    by (judged.last_clash cmp cs start key) refl e (λ f. clear_from cmp cs start (place + 1) keys f)
  where
    by : (o : Option ℕ) → judged.last_clash cmp cs start key ≡ o → judged.conflict_or place o (judged.verdict_from cmp cs start (place + 1) keys) ≡ verdicts.Clear → (judged.verdict_from cmp cs start (place + 1) keys ≡ verdicts.Clear → AllByRecursion (judged.HasNoClash cmp cs start) keys) → AllByRecursion (judged.HasNoClash cmp cs start) (key ∷ keys)
    by (Some ts) is f rest = absurd (cc)
    by None is f rest = (none_is cmp start key cs is, rest f)

-- a conflict has a reason
clear_by : (cs : List (oracle.Commit ConflictKey)) (start : ℕ) (keys : List ConflictKey) (v : Verdict) → judged.verdict conflict_cmp cs start keys ≡ v → conflict keys v ≡ None → v ≡ verdicts.Clear
clear_by cs start keys verdicts.Clear is e = refl
clear_by cs start keys (verdicts.Conflict place ts) is e =
    let n = named conflict_cmp cs start keys place ts is in
    let some : option_map (λ (key : ConflictKey). Conflict key ts) (slice_get keys place) ≡ Some (Conflict n.key ts) = ap (option_map (λ (key : ConflictKey). Conflict key ts)) n.at in
    absurd (cc)

-- nor does a held tablet leave a verdict clear
unreasoned : (held : Option (List ℕ)) (keys : List ConflictKey) (v : Verdict) → reason_by held keys v ≡ None → conflict keys v ≡ None
unreasoned (Some pred) keys v e = absurd (cc)
unreasoned None keys v e = e

pub none_clashes : (h : List Entry) (start : ℕ) (preds : List (List ℕ)) (keys : List ConflictKey) → verdict h start preds keys ≡ None → AllByRecursion (judged.HasNoClash conflict_cmp (commits h) start) keys
none_clashes h start preds keys e =
    clear_from conflict_cmp (commits h) start 0 keys
    (clear_by (commits h) start keys (judged.verdict conflict_cmp (commits h) start keys) refl (unreasoned (least_held (tablets h) preds) keys (judged.verdict conflict_cmp (commits h) start keys) e))

-- ---- what was committed since a start

-- the keys are of a commit above the start: a key that no such commit has is none of them
abbrev pub IsCommitted : List Entry → ℕ → Done → Type 0
IsCommitted g start d = (key : ConflictKey) → judged.HasNoClash conflict_cmp (commits g) start key → has conflict_cmp d.keys key ≡ false

-- the graph is what commits since the start made of the graph there
pub record IsReached (g : List Entry) (start : ℕ) : Type 0 where
  pub drawn_is : start < next g
  pub others : List Done
  pub keyed : AllByRecursion (IsKeyed (schema g)) others
  pub committed : AllByRecursion (IsCommitted g start) others
  pub graph_is : (world g).graph ≡ after_done (schema g) (world_at g start).graph others

-- a key that no commit of a longer history has, none of the shorter has
pub front_clear : (cs ds : List (oracle.Commit ConflictKey)) (start : ℕ) (key : ConflictKey) → judged.HasNoClash conflict_cmp (cs ++ ds) start key → judged.HasNoClash conflict_cmp cs start key
front_clear [] ds start key a = tt
front_clear (c ∷ cs) ds start key a = (a.0, front_clear cs ds start key a.1)

pub last_clear : (cs : List (oracle.Commit ConflictKey)) (c : oracle.Commit ConflictKey) (start : ℕ) (key : ConflictKey) → judged.HasNoClash conflict_cmp (cs ++ c ∷ []) start key → judged.clashes conflict_cmp start key c ≡ false
last_clear [] c start key a = a.0
last_clear (d ∷ cs) c start key a = last_clear cs c start key a.1

still_committed : (g : List Entry) (e : Entry) (start : ℕ) (d : Done) → IsCommitted g start d → IsCommitted (g ++ e ∷ []) start d
still_committed g e start d c key none =
    c key (front_clear (commits g) (commit_of e.event) start key (subst (λ (cs : List (oracle.Commit ConflictKey)). judged.HasNoClash conflict_cmp cs start key) (commits_push g e) none))

-- the world at the start stays
pub start_stays : (n : ℕ) (g : List Entry) (e : Entry) (start : ℕ) → start < next g → Fits n g e.author e.event → world_at (g ++ e ∷ []) start ≡ world_at g start
start_stays n g e start lt f = world_at_push g e start ∙ no_more n g e.author e.event (world_at g start) start lt f

-- an entry that changes no world
reached_still : (n : ℕ) (g : List Entry) (e : Entry) (start : ℕ) → Fits n g e.author e.event → world_after (world g) e.event ≡ world g → IsReached g start → IsReached (g ++ e ∷ []) start
reached_still n g e start f keeps r =
    let now : world (g ++ e ∷ []) ≡ world g = world_push g e ∙ keeps in
    let grown = next_push g e in
    record {
      drawn_is = omega (arith, r.drawn_is);
      others = r.others;
      keyed = subst (λ (w : World). AllByRecursion (IsKeyed w.schema) r.others) (sym now) r.keyed;
      committed = all_with (IsCommitted g start) (IsCommitted (g ++ e ∷ []) start) r.others (λ d c. still_committed g e start d c) r.committed;
      graph_is = ap (λ (w : World). w.graph) now ∙ (r.graph_is ∙ sym (λ i. after_done (now i).schema (start_stays n g e start r.drawn_is f i).graph r.others));
    }

-- the entry that begins the transaction
reached_begun : (n : ℕ) (g : List Entry) (e : Entry) (start : ℕ) → IsLegal n (g ++ e ∷ []) → start ≡ next g → drawn e.event ≡ 1 → IsReached (g ++ e ∷ []) start
reached_begun n g e start l is d =
    let grown = next_push g e in
    record {
      drawn_is = omega arith;
      others = [];
      keyed = tt;
      committed = tt;
      graph_is = sym (ap (λ (w : World). w.graph) (present_is_last n (g ++ e ∷ []) start l (omega arith)));
    }

-- a commit since the start
pub later_key : (start ts : ℕ) (b : Bool) → start < ts → (nat_lt start ts && b) ≡ false → b ≡ false
later_key start ts b lt e = let late : nat_lt start ts ≡ true = grind (arith, common_steps) in cc

reached_committed : (n : ℕ) (g : List Entry) (author start other : ℕ) (preds : List (List ℕ)) (keys : List ConflictKey) (asked : List Change) (written : Record) → IsLegal n g → Fits n g author (Commit other preds keys asked written) → IsReached g start → IsReached (g ++ (record { author = author; event = Commit other preds keys asked written }) ∷ []) start
reached_committed n g author start other preds keys asked written l f r =
    let e : Entry = record { author = author; event = Commit other preds keys asked written } in
    let d : Done = record { changes = changes_of written.parts; keys = keys } in
    let now : world (g ++ e ∷ []) ≡ record { schema = schema g; graph = after_changes (schema g) (world g).graph (changes_of written.parts) } = world_push g e in
    let same = schemas_stay n g other author l f.active in
    let grown = next_push g e in
    let its : IsKeyed (schema g) d = subst (λ (s : List PredDef). IsKeyed s d) same (sound_keyed (schema_at g other) (graph_at g other []) preds keys written.parts (graphs_are_lawful n g other l) f.sound) in
    record {
      drawn_is = omega (arith, r.drawn_is);
      others = r.others ++ d ∷ [];
      keyed = subst (λ (w : World). AllByRecursion (IsKeyed w.schema) (r.others ++ d ∷ [])) (sym now) (all_push (IsKeyed (schema g)) r.others d r.keyed its);
      committed = all_push (IsCommitted (g ++ e ∷ []) start) r.others d (all_with (IsCommitted g start) (IsCommitted (g ++ e ∷ []) start) r.others (λ o c. still_committed g e start o c) r.committed)
          (λ key none. later_key start written.ts (has conflict_cmp keys key) (omega (arith, r.drawn_is, f.ts)) (last_clear (commits g) (record { ts = written.ts; keys = keys }) start key (subst (λ (cs : List (oracle.Commit ConflictKey)). judged.HasNoClash conflict_cmp cs start key) (commits_push g e) none)));
      graph_is =
          ap (λ (w : World). w.graph) now
          ∙ (ap (λ (h : List Triple). after_changes (schema g) h (changes_of written.parts)) r.graph_is
          ∙ (sym (fold-append (λ (h : List Triple) (o : Done). after_changes (schema g) h o.changes) (world_at g start).graph r.others (d ∷ []))
          ∙ sym (λ i. after_done (now i).schema (start_stays n g e start r.drawn_is f i).graph (r.others ++ d ∷ []))));
    }

-- ---- by each entry

-- a start that is active after an entry
pub was_active : (starts : List Started) (other start author : ℕ) → is_active_of (ended starts other) start author ≡ true → is_active_of starts start author ≡ true
was_active [] other start author h = h
was_active (s ∷ starts) other start author h = by (s.start == other) h (λ k. was_active starts other start author k)
  where
    later : (b c : Bool) → c ≡ true → (b || c) ≡ true
    later true c e = refl
    later false c e = e

    keep : (b c d : Bool) → (c ≡ true → d ≡ true) → (b || c) ≡ true → (b || d) ≡ true
    keep true c d f e = refl
    keep false c d f e = f e

    by : (v : Bool) → is_active_of (cond (not v) (s ∷ ended starts other) (ended starts other)) start author ≡ true → (is_active_of (ended starts other) start author ≡ true → is_active_of starts start author ≡ true) → is_active_of (s ∷ starts) start author ≡ true
    by true h rest = later ((s.start == start) && (s.author == author)) (is_active_of starts start author) (rest h)
    by false h rest = keep ((s.start == start) && (s.author == author)) (is_active_of (ended starts other) start author) (is_active_of starts start author) rest h

abbrev Reaches : ℕ → ℕ → List Entry → Type 0
Reaches start author g = is_active_of (active g) start author ≡ true → IsReached g start

-- begun before, or by this entry
pub begun_or_before : (starts : List Started) (s : Started) (start author : ℕ) → is_active_of (starts ++ s ∷ []) start author ≡ true → (is_active_of starts start author ≡ true) ⊎ (start ≡ s.start)
begun_or_before [] s start author h = inr (by (s.start == start) refl (s.author == author) h)
  where
    by : (v : Bool) → (s.start == start) ≡ v → (w : Bool) → ((v && w) || false) ≡ true → start ≡ s.start
    by true e w h = grind (arith, common_steps)
    by false e w h = absurd (cc)
begun_or_before (t ∷ starts) s start author h = by ((t.start == start) && (t.author == author)) h (λ k. begun_or_before starts s start author k)
  where
    by : (v : Bool) → (v || is_active_of (starts ++ s ∷ []) start author) ≡ true → (is_active_of (starts ++ s ∷ []) start author ≡ true → (is_active_of starts start author ≡ true) ⊎ (start ≡ s.start)) → ((v || is_active_of starts start author) ≡ true) ⊎ (start ≡ s.start)
    by true h rest = inl refl
    by false h rest = rest h

reached_after : (n : ℕ) (g : List Entry) (author start of : ℕ) (event : Event) → IsLegal n g → Fits n g author event → Reaches start of g → is_active_of (active_after (active g) author event) start of ≡ true → IsReached (g ++ (record { author = author; event = event }) ∷ []) start
reached_after n g author start of (Begin begun) l f r h = by (begun_or_before (active g) (record { start = begun; author = author }) start of h)
  where
    by : (is_active_of (active g) start of ≡ true) ⊎ (start ≡ begun) → IsReached (g ++ (record { author = author; event = Begin begun }) ∷ []) start
    by (inl k) = reached_still n g (record { author = author; event = Begin begun }) start f refl (r k)
    by (inr is) = reached_begun n g (record { author = author; event = Begin begun }) start (legal_push n g (record { author = author; event = Begin begun }) l f) (is ∙ f.0) refl
reached_after n g author start of (Commit other preds keys asked written) l f r h =
    reached_committed n g author start other preds keys asked written l f (r (was_active (active g) other start of h))
reached_after n g author start of (Refused other reason) l f r h = reached_still n g (record { author = author; event = Refused other reason }) start f refl (r (was_active (active g) other start of h))
reached_after n g author start of (End other) l f r h = reached_still n g (record { author = author; event = End other }) start f refl (r (was_active (active g) other start of h))
reached_after n g author start of (Alter begun newer written) l f r h =
    absurd (none (subst (λ (starts : List Started). is_active_of starts start of ≡ true) f.1.none_active h))
  where
    none : false ≡ true → ⊥
    none e = cc
reached_after n g author start of event l f r h = reached_still n g (record { author = author; event = event }) start f refl (r h)

pub reached : (n : ℕ) (h : List Entry) (start author : ℕ) → IsLegal n h → is_active_of (active h) start author ≡ true → IsReached h start
reached n h start author l = kept_from n (λ a. Unit {0}) (Reaches start author) step [] h tt l (anyone h) (λ e. absurd (cc))
  where
    step : (g : List Entry) (e : Entry) → Unit {0} → IsLegal n g → Fits n g e.author e.event → Reaches start author g → Reaches start author (g ++ e ∷ [])
    step g e o l f r h =
        reached_after n g e.author start author e.event l f r (subst (λ (starts : List Started). is_active_of starts start author ≡ true) (active_push g e) h)

-- ---- the laws

-- a triple is left where no other commit has its key
key_left : (schema : List PredDef) (graph : List Triple) (others : List Done) (u : Triple) → AllByRecursion (IsKeyed schema) others → AllByRecursion (λ d. has conflict_cmp d.keys (data_conflict schema u) ≡ false) others → has_triple graph u ≡ has_triple (after_done schema graph others) u
key_left schema graph others u keyed none =
    others_leave schema graph (changes.Set u ∷ []) others keyed
    (all_with (λ d. has conflict_cmp d.keys (data_conflict schema u) ≡ false) (HasNone schema (changes.Set u ∷ [])) others (λ d e. (e, tt)) none)
    u (rw (is_itself conflict_cmp conflict_order (data_conflict schema u)) refl)

module _ (n : ℕ) (h : List Entry) (author start : ℕ) (preds : List (List ℕ)) (keys : List ConflictKey) (asked : List Change) (written : Record) (l : IsLegal n h) (f : FitsCommit h author start preds keys asked written) where
  same : schema_at h start ≡ schema h
  same = schemas_stay n h start author l f.active

  since : IsReached h start
  since = reached n h start author l f.active

  keyed : AllByRecursion (IsKeyed (schema_at h start)) since.others
  keyed = subst (λ (s : List PredDef). AllByRecursion (IsKeyed s) since.others) (sym same) since.keyed

  later_is : (world h).graph ≡ after_done (schema_at h start) (graph_at h start []) since.others
  later_is = since.graph_is ∙ λ i. after_done (sym same i) (graph_at h start []) since.others

  lawful : IsLawful (schema_at h start) (graph_at h start [])
  lawful = graphs_are_lawful n h start l

  lawful_later : IsLawful (schema_at h start) (after_done (schema_at h start) (graph_at h start []) since.others)
  lawful_later = lawful_done (schema_at h start) (graph_at h start []) since.others keyed lawful

  clear : AllByRecursion (judged.HasNoClash conflict_cmp (commits h) start) keys
  clear = none_clashes h start preds keys f.clear

  -- no key of what was asked for, nor of the parts, was committed since the start
  asked_clear : AllByRecursion (judged.HasNoClash conflict_cmp (commits h) start) (keys_of_changes (schema_at h start) (graph_at h start []) asked)
  asked_clear = each_ascending (judged.HasNoClash conflict_cmp (commits h) start) (keys_of_changes (schema_at h start) (graph_at h start []) asked) (subst (λ (ks : List ConflictKey). AllByRecursion (judged.HasNoClash conflict_cmp (commits h) start) ks) f.made_of.keys_are clear)

  pub parts_clear : AllByRecursion (judged.HasNoClash conflict_cmp (commits h) start) (keys_of_changes (schema_at h start) (graph_at h start []) (changes_of written.parts))
  parts_clear =
      each_ascending (judged.HasNoClash conflict_cmp (commits h) start) (keys_of_changes (schema_at h start) (graph_at h start []) (changes_of written.parts))
      (all_with (λ k. has conflict_cmp keys k ≡ true) (judged.HasNoClash conflict_cmp (commits h) start) (conflict_keys (schema_at h start) (graph_at h start []) (changes_of written.parts)) (λ k there. at conflict_cmp conflict_order (judged.HasNoClash conflict_cmp (commits h) start) keys k clear there) f.sound.keys_named)

  -- so they are apart from each triple that others changed
  apart_from : (cs : List Change) → AllByRecursion (judged.HasNoClash conflict_cmp (commits h) start) (keys_of_changes (schema_at h start) (graph_at h start []) cs) → (u : Triple) → (has_triple (graph_at h start []) u ≡ has_triple (after_done (schema_at h start) (graph_at h start []) since.others) u → ⊥) → has conflict_cmp (data_conflicts (schema_at h start) cs) (data_conflict (schema_at h start) u) ≡ false
  apart_from cs none u differs = by (has conflict_cmp (data_conflicts (schema_at h start) cs) (data_conflict (schema_at h start) u)) refl
    where
      by : (v : Bool) → has conflict_cmp (data_conflicts (schema_at h start) cs) (data_conflict (schema_at h start) u) ≡ v → v ≡ false
      by false e = refl
      by true e =
          let fit = differing_fits (schema_at h start) (graph_at h start []) (after_done (schema_at h start) (graph_at h start []) since.others) u lawful lawful_later differs in
          let def = declared (schema_at h start) u fit in
          let free = data_found (judged.HasNoClash conflict_cmp (commits h) start) (schema_at h start) (graph_at h start []) cs u def.0 def.1 none e in
          absurd (differs (key_left (schema_at h start) (graph_at h start []) since.others u keyed (all_with (IsCommitted h start) (λ d. has conflict_cmp d.keys (data_conflict (schema_at h start) u) ≡ false) since.others (λ d c. c (data_conflict (schema_at h start) u) free) since.committed)))

  -- each triple is after the one as after the other
  alike_after : (u : Triple) → there_after_all (schema_at h start) u (has_triple (after_done (schema_at h start) (graph_at h start []) since.others) u) asked ≡ there_after_all (schema_at h start) u (has_triple (after_done (schema_at h start) (graph_at h start []) since.others) u) (changes_of written.parts)
  alike_after u = by (same_bools (has_triple (graph_at h start []) u) (has_triple (after_done (schema_at h start) (graph_at h start []) since.others) u))
    where
      at_start : there_after_all (schema_at h start) u (has_triple (graph_at h start []) u) asked ≡ there_after_all (schema_at h start) u (has_triple (graph_at h start []) u) (changes_of written.parts)
      at_start =
          sym (changes_by_triple (schema_at h start) (graph_at h start []) asked u)
          ∙ (ap (λ (g : List Triple). has_triple g u) (sym f.made_of.lead_alike) ∙ changes_by_triple (schema_at h start) (graph_at h start []) (changes_of written.parts) u)

      by : (has_triple (graph_at h start []) u ≡ has_triple (after_done (schema_at h start) (graph_at h start []) since.others) u) ⊎ (has_triple (graph_at h start []) u ≡ has_triple (after_done (schema_at h start) (graph_at h start []) since.others) u → ⊥)
          → there_after_all (schema_at h start) u (has_triple (after_done (schema_at h start) (graph_at h start []) since.others) u) asked ≡ there_after_all (schema_at h start) u (has_triple (after_done (schema_at h start) (graph_at h start []) since.others) u) (changes_of written.parts)
      by (inl e) = subst (λ (b : Bool). there_after_all (schema_at h start) u b asked ≡ there_after_all (schema_at h start) u b (changes_of written.parts)) e at_start
      by (inr differs) =
          all_apart (schema_at h start) u (has_triple (after_done (schema_at h start) (graph_at h start []) since.others) u) asked (apart_from asked asked_clear u differs)
          ∙ sym (all_apart (schema_at h start) u (has_triple (after_done (schema_at h start) (graph_at h start []) since.others) u) (changes_of written.parts) (apart_from (changes_of written.parts) parts_clear u differs))

  do_alike : after_changes (schema_at h start) (after_done (schema_at h start) (graph_at h start []) since.others) asked ≡ after_changes (schema_at h start) (after_done (schema_at h start) (graph_at h start []) since.others) (changes_of written.parts)
  do_alike =
      known_by_triples (after_changes (schema_at h start) (after_done (schema_at h start) (graph_at h start []) since.others) asked) (after_changes (schema_at h start) (after_done (schema_at h start) (graph_at h start []) since.others) (changes_of written.parts))
      (changes_ascend (schema_at h start) (after_done (schema_at h start) (graph_at h start []) since.others) asked lawful_later.ascend) (changes_ascend (schema_at h start) (after_done (schema_at h start) (graph_at h start []) since.others) (changes_of written.parts) lawful_later.ascend)
      (λ u. changes_by_triple (schema_at h start) (after_done (schema_at h start) (graph_at h start []) since.others) asked u ∙ (alike_after u ∙ sym (changes_by_triple (schema_at h start) (after_done (schema_at h start) (graph_at h start []) since.others) (changes_of written.parts) u)))

  -- a triple is gained or lost by the parts as it was at the start
  differ_alike : (u : Triple) → DifferAlike (has_triple (graph_at h start []) u) (has_triple (after_changes (schema_at h start) (graph_at h start []) (changes_of written.parts)) u) (has_triple (after_done (schema_at h start) (graph_at h start []) since.others) u) (has_triple (after_changes (schema_at h start) (after_done (schema_at h start) (graph_at h start []) since.others) (changes_of written.parts)) u)
  differ_alike u = by (same_bools (has_triple (graph_at h start []) u) (has_triple (after_done (schema_at h start) (graph_at h start []) since.others) u))
    where
      now : has_triple (after_changes (schema_at h start) (graph_at h start []) (changes_of written.parts)) u ≡ there_after_all (schema_at h start) u (has_triple (graph_at h start []) u) (changes_of written.parts)
      now = changes_by_triple (schema_at h start) (graph_at h start []) (changes_of written.parts) u

      then : has_triple (after_changes (schema_at h start) (after_done (schema_at h start) (graph_at h start []) since.others) (changes_of written.parts)) u ≡ there_after_all (schema_at h start) u (has_triple (after_done (schema_at h start) (graph_at h start []) since.others) u) (changes_of written.parts)
      then = changes_by_triple (schema_at h start) (after_done (schema_at h start) (graph_at h start []) since.others) (changes_of written.parts) u

      by : (has_triple (graph_at h start []) u ≡ has_triple (after_done (schema_at h start) (graph_at h start []) since.others) u) ⊎ (has_triple (graph_at h start []) u ≡ has_triple (after_done (schema_at h start) (graph_at h start []) since.others) u → ⊥)
          → DifferAlike (has_triple (graph_at h start []) u) (has_triple (after_changes (schema_at h start) (graph_at h start []) (changes_of written.parts)) u) (has_triple (after_done (schema_at h start) (graph_at h start []) since.others) u) (has_triple (after_changes (schema_at h start) (after_done (schema_at h start) (graph_at h start []) since.others) (changes_of written.parts)) u)
      by (inl e) =
          let after : has_triple (after_changes (schema_at h start) (graph_at h start []) (changes_of written.parts)) u ≡ has_triple (after_changes (schema_at h start) (after_done (schema_at h start) (graph_at h start []) since.others) (changes_of written.parts)) u = now ∙ ((λ i. there_after_all (schema_at h start) u (e i) (changes_of written.parts)) ∙ sym then) in
          both_alike (has_triple (graph_at h start []) u) (has_triple (after_changes (schema_at h start) (graph_at h start []) (changes_of written.parts)) u) (has_triple (after_done (schema_at h start) (graph_at h start []) since.others) u) (has_triple (after_changes (schema_at h start) (after_done (schema_at h start) (graph_at h start []) since.others) (changes_of written.parts)) u) e after
      by (inr differs) =
          let away = apart_from (changes_of written.parts) parts_clear u differs in
          neither_changed (has_triple (graph_at h start []) u) (has_triple (after_changes (schema_at h start) (graph_at h start []) (changes_of written.parts)) u) (has_triple (after_done (schema_at h start) (graph_at h start []) since.others) u) (has_triple (after_changes (schema_at h start) (after_done (schema_at h start) (graph_at h start []) since.others) (changes_of written.parts)) u)
          (sym (now ∙ all_apart (schema_at h start) u (has_triple (graph_at h start []) u) (changes_of written.parts) away))
          (sym (then ∙ all_apart (schema_at h start) u (has_triple (after_done (schema_at h start) (graph_at h start []) since.others) u) (changes_of written.parts) away))

  -- the same in the present graph
  pub differ_now : (u : Triple) → DifferAlike (has_triple (graph_at h start []) u) (has_triple (after_changes (schema_at h start) (graph_at h start []) (changes_of written.parts)) u) (has_triple (world h).graph u) (has_triple (after_changes (schema_at h start) (world h).graph (changes_of written.parts)) u)
  differ_now u = subst (λ (g : List Triple). DifferAlike (has_triple (graph_at h start []) u) (has_triple (after_changes (schema_at h start) (graph_at h start []) (changes_of written.parts)) u) (has_triple g u) (has_triple (after_changes (schema_at h start) g (changes_of written.parts)) u)) (sym later_is) (differ_alike u)

  pub asked_does : after_changes (schema h) (world h).graph asked ≡ after_changes (schema h) (world h).graph (changes_of written.parts)
  asked_does = (λ i. after_changes (sym same i) (later_is i) asked) ∙ (do_alike ∙ sym (λ i. after_changes (sym same i) (later_is i) (changes_of written.parts)))

pub commits_do_as_asked : CommitsDoAsAsked
commits_do_as_asked n h author start preds keys asked written l f = asked_does n h author start preds keys asked written l f
