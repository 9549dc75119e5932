-- What a commit leaves, whether it goes through or is refused.
use Rattle.std.proofs.Common.{◌≡◌, ℕ, zero, suc, ◌<◌, ◌≤◌, ◌^◌, Bool, true, false, List, [], ◌∷◌, Some, None, length, get_or, refl, ap, subst, sym, ◌∙◌, arith}
use Rattle.std.specs.Prelude.{slice_get, ◌==◌, ◌&&◌, ◌||◌}
use Rattle.std.proofs.lemmas.Option.{slice_get_read}
use Rattle.dg_graph.specs.declared.change.Change.{Change}
use Rattle.dg_graph.specs.Changes.{changed}
use Rattle.dg_keys.specs.declared.conflict.ConflictKey.{ConflictKey}
use Rattle.dg_keys.specs.Conflicts.{conflict_cmp}
use Rattle.dg_oracle.specs.Commits as oracle
use Rattle.dg_oracle.specs.Verdicts as judged
use Rattle.dg_oracle.specs.declared.verdict.Verdict.TheVariants as verdicts
use Rattle.dg_zero.specs.declared.entry.Entry.{Entry}
use Rattle.dg_zero.specs.declared.chain.Committed.{Committed}
use Rattle.dg_zero.specs.declared.entry.Event.TheVariants.{Commit, Refused}
use Rattle.dg_keys.specs.declared.record.Part.{Part}
use Rattle.dg_keys.specs.declared.record.Record.{Record}
use Rattle.dg_zero.specs.Chains.{keys_at, preds_at, offer_of}
use Rattle.dg_zero.specs.declared.entry.Reason.TheVariants.{Conflict}
use Rattle.dg_zero.specs.declared.offer.Offer.{Offer}
use Rattle.dg_zero.specs.Counters.{active, starts_of, Started, is_active_of}
use Rattle.dg_zero.specs.Worlds.{schema_at, graph_at}
use Rattle.dg_zero.specs.Verdicts.{commits, verdict}
use Rattle.dg_zero.specs.Offers.{IsSound, IsMadeOf}
use Rattle.dg_schema.specs.declared.definition.PredDef.{PredDef}
use Rattle.dg_keys.specs.declared.record.Tablet.{Tablet}
use Rattle.dg_zero.specs.declared.entry.Event.TheVariants.{End, Look}
use Rattle.dg_zero.specs.declared.tablets.Place.{Place}
use Rattle.dg_zero.specs.States.{Zero, IsKept, IsRefusal, and_entry, and_then, commit_of, commit_fault_of}
use Rattle.dg_oracle.specs.Faults as of_oracle
use Rattle.dg_oracle.specs.declared.fault.OracleFault.{OracleFault}
use Rattle.dg_oracle.specs.declared.fault.OracleFault.TheVariants as draws
use Rattle.dg_zero.specs.Counters.{next}
use Rattle.dg_zero.proofs.Refusals.{named, clear_is, conflict_is, reason_is}
use Rattle.dg_zero.proofs.Kept.{refused_keeps, commit_keeps, end_keeps}

-- there is an element only inside a list
some_in : {X : Type 0} (xs : List X) (i : ℕ) (x : X) → slice_get xs i ≡ Some x → i < length xs
some_in [] i x e = absurd (cc)
some_in (y ∷ xs) zero x e = omega arith
some_in (y ∷ xs) (suc i) x e = let h = some_in xs i x e in omega arith

-- the place of a conflict lies within the keys
pub place_within : (now : List Entry) (start : ℕ) (keys : List ConflictKey) (at ts : ℕ) → judged.verdict conflict_cmp (commits now) start keys ≡ verdicts.Conflict at ts → at < length keys
place_within now start keys at ts j = let n = named conflict_cmp (commits now) start keys at ts j in some_in keys at n.key n.at

-- a start that an author began is active
pub active_from : (starts : List Started) (start author : ℕ) → is_active_of starts start author ≡ true → oracle.is_active (starts_of starts) start ≡ true
active_from [] start author e = absurd (cc)
active_from (s ∷ starts) start author e = by (s.start == start) (s.author == author) e (λ f. active_from starts start author f)
  where
    by : (a b : Bool) → ((a && b) || is_active_of starts start author) ≡ true → (is_active_of starts start author ≡ true → oracle.is_active (starts_of starts) start ≡ true) → (a || oracle.is_active (starts_of starts) start) ≡ true
    by true b e rest = refl
    by false b e rest = rest e

-- a commit whose timestamp isn't drawn hands its offer back
pub drawn_refused : (old new : Zero) (author : ℕ) (offer : Offer) (fault : OracleFault) → verdict old.history offer.start offer.preds offer.keys ≡ None → of_oracle.IsFaultAt (next old.history) fault → new ≡ and_then old author Look → IsRefusal old new author offer (commit_fault_of offer fault)
drawn_refused old new author offer draws.OutOfMemory none f e = (refl, e)
drawn_refused old new author offer (draws.TimestampsSpent spent) none f e = (none, f.0, f.1, refl, e)

-- the predicate of the first change alone is named
pub first_alone : (preds : List (List ℕ)) (cs : List Change) (pred : List ℕ) (first : Change) → length preds ≡ 1 → 1 ≤ length cs → pred ≡ get_or preds 0 pred → first ≡ get_or cs 0 first → pred ≡ (changed first).p → preds_at [] cs ≡ preds
first_alone [] cs pred first one some a b same = absurd (omega (arith, one))
first_alone (p ∷ []) [] pred first one some a b same = absurd (omega (arith, some))
first_alone (p ∷ []) (c ∷ cs) pred first one some a b same = ap (λ (q : List ℕ). q ∷ []) (ap (λ (d : Change). (changed d).p) (sym b) ∙ (sym same ∙ a))
first_alone (p ∷ q ∷ ps) cs pred first one some a b same = absurd (omega (arith, one))

-- what was made of an offer is its entry: its keys are those by which its changes conflict
pub made_of_room : (h : List Entry) (offer : Offer) (made : Committed) (keys : List ConflictKey) (parts : List Part) (written : Record) (ts : ℕ) → offer_of made keys parts ≡ offer → written ≡ record { ts = ts; fresh = []; parts = parts } → IsMadeOf (schema_at h offer.start) (graph_at h offer.start []) offer.changes offer.keys offer.parts → Commit made.start made.preds (keys_at h made.start made.changes) made.changes written ≡ commit_of offer ts
made_of_room h offer made keys parts written ts same is m =
    ap (Commit made.start made.preds (keys_at h made.start made.changes) made.changes) is
    ∙ (ap (λ (o : Offer). Commit o.start o.preds (keys_at h o.start o.changes) o.changes (record { ts = ts; fresh = []; parts = o.parts })) same
    ∙ ap (λ (ks : List ConflictKey). Commit offer.start offer.preds ks offer.changes (record { ts = ts; fresh = []; parts = offer.parts })) (sym m.keys_are))

-- an active start ends
pub ended : {cs : List ℕ} (n : ℕ) (o : oracle.OracleState ConflictKey) (uid : ℕ) (d : List PredDef) (ps : List Place) (w : List Tablet) (h now : List Entry) → h ≡ now → (author start : ℕ) → IsKept n o uid d ps w h cs → oracle.is_active o.active start ≡ true → (oracle.is_active (starts_of (active now)) start ≡ true → is_active_of (active now) start author ≡ true) → IsKept n (oracle.ended o start) uid d ps w (and_entry h author (End start)) cs
ended n o uid d ps w h now view author start k known own =
    let before : oracle.is_active (starts_of (active h)) start ≡ true = subst (λ (xs : List ℕ). oracle.is_active xs start ≡ true) k.active_are known in
    let here : oracle.is_active (starts_of (active now)) start ≡ true = subst (λ (x : List Entry). oracle.is_active (starts_of (active x)) start ≡ true) view before in
    end_keeps n o uid d ps w h author k start (subst (λ (x : List Entry). is_active_of (active x) start author ≡ true) (sym view) (own here))

module _ {cs : List ℕ} (n : ℕ) (o : oracle.OracleState ConflictKey) (uid : ℕ) (d : List PredDef) (ps : List Place) (w : List Tablet) (h now : List Entry) (view : h ≡ now) (author : ℕ) (offer : Offer) (k : IsKept n o uid d ps w h cs) (mine : is_active_of (active now) offer.start author ≡ true) where
  mine_before : is_active_of (active h) offer.start author ≡ true
  mine_before = subst (λ (x : List Entry). is_active_of (active x) offer.start author ≡ true) (sym view) mine

  pub oracle_active : oracle.is_active o.active offer.start ≡ true
  oracle_active = rw k.active_are (active_from (active h) offer.start author mine_before)

  -- the verdict over the commits before
  over_history : (at ts : ℕ) → judged.verdict conflict_cmp (commits now) offer.start offer.keys ≡ verdicts.Conflict at ts → judged.verdict conflict_cmp (commits h) offer.start offer.keys ≡ verdicts.Conflict at ts
  over_history at ts j = subst (λ (x : List Entry). judged.verdict conflict_cmp (commits x) offer.start offer.keys ≡ verdicts.Conflict at ts) (sym view) j

  -- and over those of the oracle
  pub over_oracle : judged.verdict conflict_cmp (commits now) offer.start offer.keys ≡ verdicts.Clear → judged.verdict conflict_cmp o.commits offer.start offer.keys ≡ verdicts.Clear
  over_oracle j =
      subst (λ (cs : List (oracle.Commit ConflictKey)). judged.verdict conflict_cmp cs offer.start offer.keys ≡ verdicts.Clear) (sym k.commits_are)
      (subst (λ (x : List Entry). judged.verdict conflict_cmp (commits x) offer.start offer.keys ≡ verdicts.Clear) (sym view) j)

  pub place : (at ts : ℕ) → judged.verdict conflict_cmp (commits now) offer.start offer.keys ≡ verdicts.Conflict at ts → at < length offer.keys
  place at ts j = let n = named conflict_cmp (commits h) offer.start offer.keys at ts (over_history at ts j) in some_in offer.keys at n.key n.at

  -- refused for a key, of which there are two copies
  pub refused : (at ts : ℕ) (key kept : ConflictKey) (past : List Entry) → judged.verdict conflict_cmp (commits now) offer.start offer.keys ≡ verdicts.Conflict at ts → key ≡ get_or offer.keys at key → kept ≡ get_or offer.keys at kept → past ≡ and_entry h author (Refused offer.start (Conflict kept ts)) → IsKept n (oracle.ended o offer.start) uid d ps w past cs × (verdict now offer.start offer.preds offer.keys ≡ Some (Conflict key ts)) × (past ≡ and_entry now author (Refused offer.start (Conflict key ts))) × (kept ≡ key)
  refused at ts key kept past j r1 r2 p =
      let jh = over_history at ts j in
      let lt = place at ts j in
      let g1 : slice_get offer.keys at ≡ Some key = slice_get_read offer.keys (length offer.keys) at key refl lt r1 in
      let g2 : slice_get offer.keys at ≡ Some kept = slice_get_read offer.keys (length offer.keys) at kept refl lt r2 in
      let same : kept ≡ key = cc (g1, g2) in (
        rw p (refused_keeps n o uid d ps w h author k offer.start (Conflict kept ts) mine_before (reason_is h offer.start offer.keys at ts kept jh g2)),
        subst (λ (x : List Entry). verdict x offer.start offer.preds offer.keys ≡ Some (Conflict key ts)) view (conflict_is h offer.start offer.preds offer.keys at ts key k.idle jh g1),
        p ∙ (ap (λ (x : List Entry). and_entry x author (Refused offer.start (Conflict kept ts))) view ∙ ap (λ (x : ConflictKey). and_entry now author (Refused offer.start (Conflict x ts))) same),
        same,
      )

  clear_before : judged.verdict conflict_cmp (commits now) offer.start offer.keys ≡ verdicts.Clear → verdict h offer.start offer.preds offer.keys ≡ None
  clear_before j = clear_is h offer.start offer.preds offer.keys k.idle (subst (λ (x : List Entry). judged.verdict conflict_cmp (commits x) offer.start offer.keys ≡ verdicts.Clear) (sym view) j)

  pub clear : judged.verdict conflict_cmp (commits now) offer.start offer.keys ≡ verdicts.Clear → verdict now offer.start offer.preds offer.keys ≡ None
  clear j = subst (λ (x : List Entry). verdict x offer.start offer.preds offer.keys ≡ None) view (clear_before j)

  -- committed
  pub committed : (past : List Entry) → judged.verdict conflict_cmp (commits now) offer.start offer.keys ≡ verdicts.Clear → o.next < 2 ^ 62 → IsSound (schema_at now offer.start) (graph_at now offer.start []) offer.preds offer.keys offer.parts → IsMadeOf (schema_at now offer.start) (graph_at now offer.start []) offer.changes offer.keys offer.parts → past ≡ and_entry h author (commit_of offer o.next) → IsKept n (oracle.committed o offer.start offer.keys) uid d ps w past cs
  committed past j lt sound made_of p =
      rw p (commit_keeps n o uid d ps w h author k offer lt mine_before (clear_before j) (subst (λ (x : List Entry). IsSound (schema_at x offer.start) (graph_at x offer.start []) offer.preds offer.keys offer.parts) (sym view) sound) (subst (λ (x : List Entry). IsMadeOf (schema_at x offer.start) (graph_at x offer.start []) offer.changes offer.keys offer.parts) (sym view) made_of))
