-- In a legal history, what no commit since an active start has a key of is what it was at the start.
use Rattle.std.proofs.Common.{◌≡◌, ℕ, ◌<◌, true, false, List, [], ◌∷◌, ◌++◌, refl, ap, subst, sym, ◌∙◌, arith, inl, inr}
use mathlib.Core.Logic.{◌⊎◌}
use Rattle.std.proofs.lemmas.Bool.{both_ways}
use Rattle.dg_values.specs.Ascending.{has}
use Rattle.dg_sets.proofs.Sets.{at}
use Rattle.dg_schema.specs.declared.definition.PredDef.{PredDef}
use Rattle.dg_graph.specs.declared.change.Change.{Change}
use Rattle.dg_graph.specs.Graphs.{after_changes}
use Rattle.dg_graph.specs.Changes.{has_triple}
use Rattle.dg_keys.specs.declared.conflict.ConflictKey.{ConflictKey}
use Rattle.dg_keys.specs.declared.record.Record.{Record}
use Rattle.dg_keys.specs.KeyOrder.{conflict_order}
use Rattle.dg_keys.specs.Conflicts.{conflict_cmp}
use Rattle.dg_oracle.specs.Commits as oracle
use Rattle.dg_oracle.specs.Verdicts.{HasNoClash}
use Rattle.dg_zero.specs.declared.entry.Entry.{Entry}
use Rattle.dg_zero.specs.declared.entry.Event.{Event}
use Rattle.dg_zero.specs.declared.entry.Event.TheVariants.{Begin, Commit, Refused, End, Alter}
use Rattle.dg_zero.specs.Counters.{drawn, next, Started, active_after, active, is_active_of}
use Rattle.dg_zero.specs.Worlds.{World, world, world_after, world_at, schema, schema_at, graph_at, changes_of}
use Rattle.dg_zero.specs.Verdicts.{commits, commit_of}
use Rattle.dg_zero.specs.Listings.{keys_of_changes}
use Rattle.dg_zero.specs.Legal.{Fits, FitsCommit, IsLegal}
use Rattle.dg_zero.proofs.Histories.{next_push, active_push, commits_push, legal_push}
use Rattle.dg_zero.proofs.LawsOfHistories.{kept_from, anyone, world_push, present_is_last}
use Rattle.dg_zero.proofs.SchemasStay.{schemas_stay}
use Rattle.dg_edges.specs.Regions.{triple_keys, IsIn, AgreeIn}
use Rattle.dg_edges.specs.Laws.{KeysStandStill}
use Rattle.dg_edges.proofs.AgreeLaws.{same_bools}
use Rattle.dg_edges.proofs.CommitsSince.{front_clear, last_clear, later_key, start_stays, was_active, begun_or_before, reached, differ_now}
use Rattle.dg_edges.proofs.PartsStay.{unmoved}
use Rattle.dg_edges.proofs.SoundParts.{each_ascending}
use Rattle.dg_edges.proofs.TripleKeys.{changed_keys}

-- ---- one commit

-- a commit leaves the triples of each key that isn't its own
commit_leaves : (n : ℕ) (g : List Entry) (author start : ℕ) (preds : List (List ℕ)) (keys : List ConflictKey) (asked : List Change) (written : Record) (key : ConflictKey) → IsLegal n g → FitsCommit g author start preds keys asked written → has conflict_cmp keys key ≡ false → AgreeIn (schema g) key (world g).graph (after_changes (schema g) (world g).graph (changes_of written.parts))
commit_leaves n g author start preds keys asked written key l f other u is =
    let same = schemas_stay n g start author l f.active in
    by (same_bools (has_triple (graph_at g start []) u) (has_triple (after_changes (schema_at g start) (graph_at g start []) (changes_of written.parts)) u))
    ∙ ap (λ (s : List PredDef). has_triple (after_changes s (world g).graph (changes_of written.parts)) u) same
  where
    its : IsIn (schema_at g start) key u
    its = subst (λ (s : List PredDef). IsIn s key u) (sym (schemas_stay n g start author l f.active)) is

    by : (has_triple (graph_at g start []) u ≡ has_triple (after_changes (schema_at g start) (graph_at g start []) (changes_of written.parts)) u) ⊎ (has_triple (graph_at g start []) u ≡ has_triple (after_changes (schema_at g start) (graph_at g start []) (changes_of written.parts)) u → ⊥)
        → has_triple (world g).graph u ≡ has_triple (after_changes (schema_at g start) (world g).graph (changes_of written.parts)) u
    by (inl e) = unmoved (has_triple (graph_at g start []) u) (has_triple (after_changes (schema_at g start) (graph_at g start []) (changes_of written.parts)) u) (has_triple (world g).graph u) (has_triple (after_changes (schema_at g start) (world g).graph (changes_of written.parts)) u) (differ_now n g author start preds keys asked written l f u) e
    by (inr differs) =
        let named = changed_keys (λ k. has conflict_cmp keys k ≡ true) (schema_at g start) (graph_at g start []) (changes_of written.parts) u differs (each_ascending (λ k. has conflict_cmp keys k ≡ true) (keys_of_changes (schema_at g start) (graph_at g start []) (changes_of written.parts)) f.sound.keys_named) in
        absurd (both_ways (has conflict_cmp keys key) other (at conflict_cmp conflict_order (λ k. has conflict_cmp keys k ≡ true) (triple_keys (schema_at g start) u) key named its))

-- ---- by each entry

abbrev IsStill : List Entry → ℕ → Type 0
IsStill g start = (key : ConflictKey) → HasNoClash conflict_cmp (commits g) start key → AgreeIn (schema g) key (world_at g start).graph (world g).graph

clear_before : (g : List Entry) (e : Entry) (start : ℕ) (key : ConflictKey) → HasNoClash conflict_cmp (commits (g ++ e ∷ [])) start key → HasNoClash conflict_cmp (commits g) start key
clear_before g e start key none = front_clear (commits g) (commit_of e.event) start key (subst (λ (cs : List (oracle.Commit ConflictKey)). HasNoClash conflict_cmp cs start key) (commits_push g e) none)

-- an entry that changes no world
still_after : (n : ℕ) (g : List Entry) (e : Entry) (start : ℕ) → start < next g → Fits n g e.author e.event → world_after (world g) e.event ≡ world g → IsStill g start → IsStill (g ++ e ∷ []) start
still_after n g e start lt f keeps still key none u is =
    let now : world (g ++ e ∷ []) ≡ world g = world_push g e ∙ keeps in
    (λ i. has_triple (start_stays n g e start lt f i).graph u)
    ∙ (still key (clear_before g e start key none) u (subst (λ (w : World). IsIn w.schema key u) now is) ∙ sym (λ i. has_triple (now i).graph u))

-- the entry that begins the transaction
still_begun : (n : ℕ) (g : List Entry) (e : Entry) (start : ℕ) → IsLegal n (g ++ e ∷ []) → start ≡ next g → drawn e.event ≡ 1 → IsStill (g ++ e ∷ []) start
still_begun n g e start l is d key none u its =
    let grown = next_push g e in
    ap (λ (w : World). has_triple w.graph u) (present_is_last n (g ++ e ∷ []) start l (omega arith))

-- a commit since the start
still_committed : (n : ℕ) (g : List Entry) (author start other : ℕ) (preds : List (List ℕ)) (keys : List ConflictKey) (asked : List Change) (written : Record) → IsLegal n g → Fits n g author (Commit other preds keys asked written) → start < next g → IsStill g start → IsStill (g ++ (record { author = author; event = Commit other preds keys asked written }) ∷ []) start
still_committed n g author start other preds keys asked written l f lt still key none u is =
    let e : Entry = record { author = author; event = Commit other preds keys asked written } in
    let now : world (g ++ e ∷ []) ≡ record { schema = schema g; graph = after_changes (schema g) (world g).graph (changes_of written.parts) } = world_push g e in
    let its : IsIn (schema g) key u = subst (λ (w : World). IsIn w.schema key u) now is in
    let last = last_clear (commits g) (record { ts = written.ts; keys = keys }) start key (subst (λ (cs : List (oracle.Commit ConflictKey)). HasNoClash conflict_cmp cs start key) (commits_push g e) none) in
    let other_key : has conflict_cmp keys key ≡ false = later_key start written.ts (has conflict_cmp keys key) (omega (arith, lt, f.ts)) last in
    (λ i. has_triple (start_stays n g e start lt f i).graph u)
    ∙ (still key (clear_before g e start key none) u its
    ∙ (commit_leaves n g author other preds keys asked written key l f other_key u its
    ∙ sym (λ i. has_triple (now i).graph u)))

-- what stands at an active start
abbrev Still : ℕ → ℕ → List Entry → Type 0
Still start author g = is_active_of (active g) start author ≡ true → IsStill g start

next_still : (n : ℕ) (g : List Entry) (author start of : ℕ) (event : Event) → IsLegal n g → Fits n g author event → Still start of g → is_active_of (active_after (active g) author event) start of ≡ true → IsStill (g ++ (record { author = author; event = event }) ∷ []) start
next_still n g author start of (Begin begun) l f r h = by (begun_or_before (active g) (record { start = begun; author = author }) start of h)
  where
    by : (is_active_of (active g) start of ≡ true) ⊎ (start ≡ begun) → IsStill (g ++ (record { author = author; event = Begin begun }) ∷ []) start
    by (inl k) = still_after n g (record { author = author; event = Begin begun }) start (reached n g start of l k).drawn_is f refl (r k)
    by (inr is) = still_begun n g (record { author = author; event = Begin begun }) start (legal_push n g (record { author = author; event = Begin begun }) l f) (is ∙ f.0) refl
next_still n g author start of (Commit other preds keys asked written) l f r h =
    let was = was_active (active g) other start of h in
    still_committed n g author start other preds keys asked written l f (reached n g start of l was).drawn_is (r was)
next_still n g author start of (Refused other reason) l f r h =
    let was = was_active (active g) other start of h in
    still_after n g (record { author = author; event = Refused other reason }) start (reached n g start of l was).drawn_is f refl (r was)
next_still n g author start of (End other) l f r h =
    let was = was_active (active g) other start of h in
    still_after n g (record { author = author; event = End other }) start (reached n g start of l was).drawn_is f refl (r was)
next_still n g author start of (Alter begun newer written) l f r h =
    absurd (none (subst (λ (starts : List Started). is_active_of starts start of ≡ true) f.1.none_active h))
  where
    none : false ≡ true → ⊥
    none e = cc
next_still n g author start of event l f r h = still_after n g (record { author = author; event = event }) start (reached n g start of l h).drawn_is f refl (r h)

pub keys_stand_still : KeysStandStill
keys_stand_still n h start author key l active none = kept_from n (λ a. Unit {0}) (Still start author) step [] h tt l (anyone h) (λ e. absurd (cc)) active key none
  where
    step : (g : List Entry) (e : Entry) → Unit {0} → IsLegal n g → Fits n g e.author e.event → Still start author g → Still start author (g ++ e ∷ [])
    step g e o l f r h =
        next_still n g e.author start author e.event l f r (subst (λ (starts : List Started). is_active_of starts start author ≡ true) (active_push g e) h)
