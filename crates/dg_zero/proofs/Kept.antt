-- Each call keeps the oracle, the schema, the tablets and the owners where the history leads.
use Rattle.std.proofs.Common.{◌≡◌, ℕ, ◌+◌, ◌<◌, ◌^◌, true, false, List, [], ◌∷◌, ◌++◌, None, refl, ap, subst, sym, ◌∙◌, arith}
use Rattle.std.specs.Prelude.{map}
use Rattle.std.specs.List.{AllByRecursion}
use Rattle.std.proofs.lemmas.List.{append-nil, map-append}
use Rattle.std.proofs.lemmas.List.Sums.{fold-append}
use Rattle.dg_schema.specs.declared.definition.PredDef.{PredDef}
use Rattle.dg_schema.specs.Definitions.{with_definitions, AreDistinct}
use Rattle.dg_keys.specs.declared.conflict.ConflictKey.{ConflictKey}
use Rattle.dg_keys.specs.declared.record.Part.{Part}
use Rattle.dg_keys.specs.declared.record.Tablet.{Tablet}
use Rattle.dg_oracle.specs.Commits as oracle
use Rattle.dg_zero.specs.declared.entry.Entry.{Entry}
use Rattle.dg_zero.specs.declared.entry.Event.{Event}
use Rattle.dg_zero.specs.declared.entry.Event.TheVariants.{Begin, Refused, End, Lease, Alter, Look}
use Rattle.dg_zero.specs.declared.entry.Reason.{Reason}
use Rattle.dg_zero.specs.declared.offer.Offer.{Offer}
use Rattle.dg_zero.specs.declared.tablets.Phase.TheVariants.{Idle}
use Rattle.dg_zero.specs.declared.tablets.Place.{Place}
use Rattle.dg_zero.specs.Counters.{next, next_uid_after, next_uid, Started, active, starts_of, is_active_of}
use Rattle.dg_zero.specs.Legal.{Fits, FitsLease, IsReason}
use Rattle.dg_zero.specs.Offers.{IsSound, IsMadeOf}
use Rattle.dg_zero.specs.Places.{Places, places, places_after, tablets, tally, fresh, fresh_place, is_held}
use Rattle.dg_zero.specs.States.{IsKept, and_entry, commit_of, owners_of, KeepKinds, AreAlterParts}
use Rattle.dg_zero.specs.Verdicts.{commits, verdict}
use Rattle.dg_zero.specs.Worlds.{World, empty_world, world, world_after, schema, schema_at, graph_at}
use Rattle.dg_zero.proofs.Refusals.{not_held}
use Rattle.dg_zero.proofs.Histories.{next_push, next_uid_push, active_push, places_push, commits_push, legal_push, starts_of_ended}

-- ---- the schema and the tablets

schema_push : (h : List Entry) (e : Entry) → schema (h ++ e ∷ []) ≡ (world_after (world h) e.event).schema
schema_push h e = ap (λ (w : World). w.schema) (fold-append (λ (w : World) (e : Entry). world_after w e.event) empty_world h (e ∷ []))

tablets_push : (h : List Entry) (e : Entry) → tablets (h ++ e ∷ []) ≡ (places_after (places h) e.event).tablets
tablets_push h e = ap (λ (s : Places). s.tablets) (places_push h e)

-- an event that leaves the schema and the tablets
pub record IsStill (event : Event) : Type 0 where
  pub schema_stays : (w : World) → (world_after w event).schema ≡ w.schema
  pub places_stay : (s : Places) → places_after s event ≡ s

-- what else a call has to show
pub record Moves (n : ℕ) (h : List Entry) (author : ℕ) (event : Event) (o2 : oracle.OracleState ConflictKey) (uid2 : ℕ) : Type 0 where
  pub fits : Fits n h author event
  pub next_is : o2.next ≡ next (and_entry h author event)
  pub active_are : o2.active ≡ starts_of (active (and_entry h author event))
  pub commits_are : o2.commits ≡ commits (and_entry h author event)
  pub line_is : o2.line ≡ 0
  pub uid_moves : uid2 ≡ next_uid_after (next_uid h) event

module _ {cs : List ℕ} (n : ℕ) (o : oracle.OracleState ConflictKey) (uid : ℕ) (d : List PredDef) (ps : List Place) (w : List Tablet) (h : List Entry) (author : ℕ) (k : IsKept n o uid d ps w h cs) where
  still_keeps : (event : Event) (o2 : oracle.OracleState ConflictKey) (uid2 : ℕ) → IsStill event → Moves n h author event o2 uid2 → IsKept n o2 uid2 d ps w (and_entry h author event) cs
  still_keeps event o2 uid2 s m =
      let e : Entry = record { author = author; event = event } in
      let same : tablets (h ++ e ∷ []) ≡ tablets h = tablets_push h e ∙ ap (λ (p : Places). p.tablets) (s.places_stay (places h)) in
      record {
        least = k.least;
        legal = legal_push n h e k.legal m.fits;
        next_is = m.next_is;
        active_are = m.active_are;
        commits_are = m.commits_are;
        line_is = m.line_is;
        uid_is = m.uid_moves ∙ sym (next_uid_push h e);
        schema_is = k.schema_is ∙ sym (schema_push h e ∙ s.schema_stays (world h));
        tablets_are = k.tablets_are ∙ sym same;
        owners_are = k.owners_are ∙ sym (ap owners_of same);
        counts_are = k.counts_are ∙ sym (ap (tally n) same);
        idle = subst (λ (ts : List Place). AllByRecursion (λ (t : Place). t.phase ≡ Idle) ts) (sym same) k.idle;
      }

  -- ---- a look

  same_next : (event : Event) → next (h ++ (record { author = author; event = event }) ∷ []) ≡ next h → o.next ≡ next (and_entry h author event)
  same_next event e = k.next_is ∙ sym e

  pub look_keeps : IsKept n o uid d ps w (and_entry h author Look) cs
  look_keeps =
      let e : Entry = record { author = author; event = Look } in
      still_keeps Look o uid (record { schema_stays = λ w. refl; places_stay = λ s. refl }) (record {
        fits = tt;
        next_is = let p = next_push h e in omega (arith, k.next_is);
        active_are = rw active_push k.active_are;
        commits_are = rw commits_push (k.commits_are ∙ sym (append-nil (commits h)));
        line_is = k.line_is;
        uid_moves = k.uid_is;
      })

  -- ---- a begin

  pub begin_keeps : o.next < 2 ^ 62 → IsKept n (oracle.begun o) uid d ps w (and_entry h author (Begin o.next)) cs
  begin_keeps lt =
      let e : Entry = record { author = author; event = Begin o.next } in
      still_keeps (Begin o.next) (oracle.begun o) uid (record { schema_stays = λ w. refl; places_stay = λ s. refl }) (record {
        fits = (k.next_is, lt);
        next_is = let p = next_push h e in omega (arith, k.next_is);
        active_are = rw active_push (ap (λ (xs : List ℕ). xs ++ o.next ∷ []) k.active_are ∙ sym (map-append (λ (s : Started). s.start) (active h) ((record { start = o.next; author = author }) ∷ [])));
        commits_are = rw commits_push (k.commits_are ∙ sym (append-nil (commits h)));
        line_is = k.line_is;
        uid_moves = k.uid_is;
      })

  -- ---- an end

  pub end_keeps : (start : ℕ) → is_active_of (active h) start author ≡ true → IsKept n (oracle.ended o start) uid d ps w (and_entry h author (End start)) cs
  end_keeps start a =
      let e : Entry = record { author = author; event = End start } in
      still_keeps (End start) (oracle.ended o start) uid (record { schema_stays = λ w. refl; places_stay = λ s. refl }) (record {
        fits = a;
        next_is = let p = next_push h e in omega (arith, k.next_is);
        active_are = rw active_push (ap (λ (xs : List ℕ). oracle.without xs start) k.active_are ∙ sym (starts_of_ended (active h) start));
        commits_are = rw commits_push (k.commits_are ∙ sym (append-nil (commits h)));
        line_is = k.line_is;
        uid_moves = k.uid_is;
      })

  pub absent_keeps : (start : ℕ) (o2 : oracle.OracleState ConflictKey) → o2 ≡ o → IsKept n o2 uid d ps w (and_entry h author Look) cs
  absent_keeps start o2 same = subst (λ (x : oracle.OracleState ConflictKey). IsKept n x uid d ps w (and_entry h author Look) cs) (sym same) look_keeps

  -- ---- a refused commit

  pub refused_keeps : (start : ℕ) (reason : Reason) → is_active_of (active h) start author ≡ true → IsReason h start reason → IsKept n (oracle.ended o start) uid d ps w (and_entry h author (Refused start reason)) cs
  refused_keeps start reason a is =
      let e : Entry = record { author = author; event = Refused start reason } in
      still_keeps (Refused start reason) (oracle.ended o start) uid (record { schema_stays = λ w. refl; places_stay = λ s. refl }) (record {
        fits = (a, is);
        next_is = let p = next_push h e in omega (arith, k.next_is);
        active_are = rw active_push (ap (λ (xs : List ℕ). oracle.without xs start) k.active_are ∙ sym (starts_of_ended (active h) start));
        commits_are = rw commits_push (k.commits_are ∙ sym (append-nil (commits h)));
        line_is = k.line_is;
        uid_moves = k.uid_is;
      })

  -- ---- a commit

  pub commit_keeps : (offer : Offer) → o.next < 2 ^ 62 → is_active_of (active h) offer.start author ≡ true → verdict h offer.start offer.preds offer.keys ≡ None → IsSound (schema_at h offer.start) (graph_at h offer.start []) offer.preds offer.keys offer.parts → IsMadeOf (schema_at h offer.start) (graph_at h offer.start []) offer.changes offer.keys offer.parts → IsKept n (oracle.committed o offer.start offer.keys) uid d ps w (and_entry h author (commit_of offer o.next)) cs
  commit_keeps offer lt a clear sound made_of =
      let e : Entry = record { author = author; event = commit_of offer o.next } in
      still_keeps (commit_of offer o.next) (oracle.committed o offer.start offer.keys) uid (record { schema_stays = λ w. refl; places_stay = λ s. refl }) (record {
        fits = record { active = a; ts = k.next_is; drawn = lt; no_tablet = refl; clear = clear; sound = sound; made_of = made_of };
        next_is = let p = next_push h e in omega (arith, k.next_is);
        active_are = rw active_push (ap (λ (xs : List ℕ). oracle.without xs offer.start) k.active_are ∙ sym (starts_of_ended (active h) offer.start));
        commits_are = rw commits_push (ap (λ (cs : List (oracle.Commit ConflictKey)). cs ++ (record { ts = o.next; keys = offer.keys }) ∷ []) k.commits_are);
        line_is = k.line_is;
        uid_moves = k.uid_is;
      })

  -- ---- a lease

  pub lease_keeps : (top count first : ℕ) → FitsLease h top count first → IsKept n o (first + count) d ps w (and_entry h author (Lease top count first)) cs
  lease_keeps top count first fits =
      let e : Entry = record { author = author; event = Lease top count first } in
      still_keeps (Lease top count first) o (first + count) (record { schema_stays = λ w. refl; places_stay = λ s. refl }) (record {
        fits = fits;
        next_is = let p = next_push h e in omega (arith, k.next_is);
        active_are = rw active_push k.active_are;
        commits_are = rw commits_push (k.commits_are ∙ sym (append-nil (commits h)));
        line_is = k.line_is;
        uid_moves = refl;
      })

  -- ---- an alter

  no_starts : (starts : List Started) → starts_of starts ≡ [] → starts ≡ []
  no_starts [] e = refl
  no_starts (s ∷ starts) e = absurd (cc)

  pub none_active : o.active ≡ [] → active h ≡ []
  none_active e = no_starts (active h) (sym k.active_are ∙ e)

  pub none_held : (newer : List PredDef) → AllByRecursion (λ def. is_held (tablets h) def.name ≡ false) newer
  none_held [] = tt
  none_held (def ∷ newer) = (not_held (tablets h) def.name k.idle, none_held newer)

  all_idle : (fresh : List Tablet) (ps : List Place) → AllByRecursion (λ (t : Place). t.phase ≡ Idle) ps → AllByRecursion (λ (t : Place). t.phase ≡ Idle) (ps ++ map fresh_place fresh)
  all_idle [] [] a = tt
  all_idle (t ∷ fresh) [] a = (refl, all_idle fresh [] tt)
  all_idle fresh (p ∷ ps) a = (a.0, all_idle fresh ps a.1)

  pub alter_keeps : (newer : List PredDef) (parts : List Part) → author ≡ 0 → o.active ≡ [] → o.next + 1 < 2 ^ 62 → AreDistinct newer → KeepKinds h newer → AreAlterParts h newer parts → IsKept n (oracle.two_drawn o) uid (with_definitions d newer) (ps ++ map fresh_place (fresh n ps newer)) (owners_of (ps ++ map fresh_place (fresh n ps newer))) (and_entry h author (Alter o.next newer (record { ts = o.next + 1; fresh = fresh n ps newer; parts = parts }))) (tally n (ps ++ map fresh_place (fresh n ps newer)))
  alter_keeps newer parts own idle lt distinct kinds are =
      let event : Event = Alter o.next newer (record { ts = o.next + 1; fresh = fresh n ps newer; parts = parts }) in
      let e : Entry = record { author = author; event = event } in
      let fresh_is : fresh n ps newer ≡ fresh n (tablets h) newer = ap (λ (q : List Place). fresh n q newer) k.tablets_are in
      let after : ps ++ map fresh_place (fresh n ps newer) ≡ tablets (h ++ e ∷ []) = ap (λ (q : List Place). q ++ map fresh_place (fresh n ps newer)) k.tablets_are ∙ sym (tablets_push h e) in
      record {
        least = k.least;
        legal = legal_push n h e k.legal (own, record { start_is = k.next_is; ts = refl; drawn = lt; none_active = none_active idle; distinct = distinct; none_held = none_held newer; kinds = kinds; fresh_are = fresh_is; parts_are = are });
        next_is = let p = next_push h e in omega (arith, k.next_is);
        active_are = rw active_push k.active_are;
        commits_are = rw commits_push (k.commits_are ∙ sym (append-nil (commits h)));
        line_is = k.line_is;
        uid_is = k.uid_is ∙ sym (next_uid_push h e);
        schema_is = ap (λ (s : List PredDef). with_definitions s newer) k.schema_is ∙ sym (schema_push h e);
        tablets_are = after;
        owners_are = ap owners_of after;
        counts_are = ap (tally n) after;
        idle = subst (λ (q : List Place). AllByRecursion (λ (t : Place). t.phase ≡ Idle) q) after (all_idle (fresh n ps newer) ps (subst (λ (q : List Place). AllByRecursion (λ (t : Place). t.phase ≡ Idle) q) (sym k.tablets_are) k.idle));
      }
