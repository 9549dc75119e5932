-- What the commits of a legal history asked for agrees with what they wrote: the machine of every legal history has its keys and its graphs.
use Rattle.std.proofs.Common.{◌≡◌, ℕ, ◌+◌, List, [], ◌∷◌, ◌++◌, refl, ap, subst, sym, ◌∙◌}
use Rattle.dg_schema.specs.declared.definition.PredDef.{PredDef}
use Rattle.dg_graph.specs.declared.change.Change.{Change}
use Rattle.dg_keys.specs.declared.conflict.ConflictKey.{ConflictKey}
use Rattle.dg_keys.specs.declared.record.Record.{Record}
use Rattle.dg_zero.specs.declared.entry.Entry.{Entry}
use Rattle.dg_zero.specs.declared.entry.Event.{Event}
use Rattle.dg_zero.specs.declared.entry.Event.TheVariants.{Begin, Commit, Refused, End, Lease, Alter, Line, Rolled, MoveStart, MoveCopied, MoveHold, Flip, MoveOff, Look}
use Rattle.dg_zero.specs.declared.offer.Offer.{Offer}
use Rattle.dg_zero.specs.Counters.{drawn, next, next_uid_after}
use Rattle.dg_zero.specs.Legal.{Fits, FitsCommit, FitsAlter, IsLegal}
use Rattle.dg_zero.specs.States.{Zero}
use Rattle.dg_zero.specs.States as states
use Rattle.dg_zero.proofs.LawsOfHistories.{kept_from, anyone}
use Rattle.dg_edges.proofs.CommitsSince.{reached, commits_do_as_asked}
use Rattle.dg_node.specs.Held.{Held}
use Rattle.dg_node.specs.Machine.{Machine}
use Rattle.dg_node.specs.State.{machine_of}
use Rattle.dg_node.proofs.Standing.{StandBeside, is_beside}
use Rattle.dg_node.proofs.StandLemmas.{IsQuiet, stand_quiet, stand_alter, stand_commit}

-- a state of a history, where no transaction is open
abbrev zero_of : ℕ → List Entry → Zero
zero_of n h = record { groups = n; history = h }

abbrev held_of : ℕ → List Entry → Held
held_of n h = record { zero = record { groups = n; history = h }; opened = [] }

-- its machine stands for it
abbrev pub Agree : ℕ → List Entry → Type 0
Agree n h = StandBeside (record { groups = n; history = h }) [] (machine_of (record { zero = record { groups = n; history = h }; opened = [] }))

of_some : (n : ℕ) (h : List Entry) (m : Machine) → StandBeside (record { groups = n; history = h }) [] m → Agree n h
of_some n h m s = subst (StandBeside (record { groups = n; history = h }) []) (is_beside (zero_of n h) [] m s) s

module _ (n : ℕ) (h : List Entry) (author : ℕ) (s : Agree n h) where
  longer : Event → List Entry
  longer event = h ++ (record { author = author; event = event }) ∷ []

  quiet : (event : Event) → IsQuiet event → Agree n (h ++ (record { author = author; event = event }) ∷ [])
  quiet event q =
      let m = machine_of (held_of n h) in
      of_some n (h ++ (record { author = author; event = event }) ∷ []) _ (stand_quiet (zero_of n h) [] m s author event [] [] (m.next + drawn event) (next_uid_after m.next_uid event) q refl refl refl)

  altered : (start : ℕ) (newer : List PredDef) (written : Record) → FitsAlter n h start newer written → Agree n (h ++ (record { author = author; event = Alter start newer written }) ∷ [])
  altered start newer written f =
      let m = machine_of (held_of n h) in
      let start_back : next h ≡ start = sym f.start_is in
      let ts_back : next h + 1 ≡ written.ts = sym (f.ts ∙ ap (λ (k : ℕ). k + 1) f.start_is) in
      let fresh_back = sym f.fresh_are in
      let same : states.alter_of (zero_of n h) newer written.parts ≡ Alter start newer written = λ i. Alter (start_back i) newer (record { ts = ts_back i; fresh = fresh_back i; parts = written.parts }) in
      subst (λ (event : Event). Agree n (h ++ (record { author = author; event = event }) ∷ [])) same
      (of_some n (h ++ (record { author = author; event = states.alter_of (zero_of n h) newer written.parts }) ∷ []) _ (stand_alter (zero_of n h) [] m s author newer written.parts))

  committed : (start : ℕ) (preds : List (List ℕ)) (keys : List ConflictKey) (asked : List Change) (written : Record) → IsLegal n h → FitsCommit h author start preds keys asked written → Agree n (h ++ (record { author = author; event = Commit start preds keys asked written }) ∷ [])
  committed start preds keys asked written l f =
      let m = machine_of (held_of n h) in
      let offer : Offer = record { start = start; preds = preds; keys = keys; changes = asked; parts = written.parts } in
      let fresh_back : [] ≡ written.fresh = sym f.no_tablet in
      let same : states.commit_of offer written.ts ≡ Commit start preds keys asked written = λ i. Commit start preds keys asked (record { ts = written.ts; fresh = fresh_back i; parts = written.parts }) in
      subst (λ (event : Event). Agree n (h ++ (record { author = author; event = event }) ∷ [])) same
      (of_some n (h ++ (record { author = author; event = states.commit_of offer written.ts }) ∷ []) _
      (stand_commit (zero_of n h) [] m s author offer written.ts start asked [] [] f.ts
      (record {
        legal = l;
        start_is = refl;
        start_drawn = (reached n h start author l f.active).drawn_is;
        changes_same = refl;
        keys_same = f.made_of.keys_are;
        parts_do = commits_do_as_asked n h author start preds keys asked written l f;
      })
      refl))

still : (n : ℕ) (h : List Entry) (author : ℕ) (event : Event) → IsLegal n h → Fits n h author event → Agree n h → Agree n (h ++ (record { author = author; event = event }) ∷ [])
still n h author (Begin start) l f s = quiet n h author s (Begin start) (record { no_alter = refl; no_commit = refl; none_asked = refl; same_world = λ w. refl })
still n h author (Commit start preds keys asked written) l f s = committed n h author s start preds keys asked written l f
still n h author (Refused start reason) l f s = quiet n h author s (Refused start reason) (record { no_alter = refl; no_commit = refl; none_asked = refl; same_world = λ w. refl })
still n h author (End start) l f s = quiet n h author s (End start) (record { no_alter = refl; no_commit = refl; none_asked = refl; same_world = λ w. refl })
still n h author (Lease top count first) l f s = quiet n h author s (Lease top count first) (record { no_alter = refl; no_commit = refl; none_asked = refl; same_world = λ w. refl })
still n h author (Alter start newer written) l f s = altered n h author s start newer written f.1
still n h author (Line at) l f s = quiet n h author s (Line at) (record { no_alter = refl; no_commit = refl; none_asked = refl; same_world = λ w. refl })
still n h author (Rolled pred group upto) l f s = quiet n h author s (Rolled pred group upto) (record { no_alter = refl; no_commit = refl; none_asked = refl; same_world = λ w. refl })
still n h author (MoveStart pred group) l f s = quiet n h author s (MoveStart pred group) (record { no_alter = refl; no_commit = refl; none_asked = refl; same_world = λ w. refl })
still n h author (MoveCopied pred) l f s = quiet n h author s (MoveCopied pred) (record { no_alter = refl; no_commit = refl; none_asked = refl; same_world = λ w. refl })
still n h author (MoveHold pred) l f s = quiet n h author s (MoveHold pred) (record { no_alter = refl; no_commit = refl; none_asked = refl; same_world = λ w. refl })
still n h author (Flip pred until) l f s = quiet n h author s (Flip pred until) (record { no_alter = refl; no_commit = refl; none_asked = refl; same_world = λ w. refl })
still n h author (MoveOff pred) l f s = quiet n h author s (MoveOff pred) (record { no_alter = refl; no_commit = refl; none_asked = refl; same_world = λ w. refl })
still n h author Look l f s = quiet n h author s Look (record { no_alter = refl; no_commit = refl; none_asked = refl; same_world = λ w. refl })

-- every legal history agrees
pub agree : (n : ℕ) (h : List Entry) → IsLegal n h → Agree n h
agree n h l = kept_from n (λ a. Unit {0}) (Agree n) step [] h tt l (anyone h) first
  where
    step : (g : List Entry) (e : Entry) → Unit {0} → IsLegal n g → Fits n g e.author e.event → Agree n g → Agree n (g ++ e ∷ [])
    step g e o l f s = still n g e.author e.event l f s

    first : Agree n []
    first = record { groups_are = refl; next_is = refl; uid_is = refl; alters_are = refl; commits_are = refl; sessions_are = refl; keys_are = refl; drawn = tt; graphs_are = λ at. refl }
