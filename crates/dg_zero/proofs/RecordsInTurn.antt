-- The records of a legal history ascend by timestamp.
use Rattle.std.proofs.Common.{ℕ, ◌+◌, ◌<◌, ◌≤◌, List, [], ◌∷◌, ◌++◌, map, arith}
use Rattle.std.specs.List.{AllByRecursion}
use Rattle.std.proofs.lemmas.List.{append-nil}
use Rattle.dg_keys.specs.declared.record.Record.{Record}
use Rattle.dg_oracle.specs.Commits.{Ascends}
use Rattle.dg_oracle.proofs.Oracles.{ascends_push, all_push, below_more, map_push}
use Rattle.dg_zero.specs.declared.entry.Entry.{Entry}
use Rattle.dg_zero.specs.declared.entry.Event.{Event}
use Rattle.dg_zero.specs.declared.entry.Event.TheVariants.{Commit, Alter}
use Rattle.dg_zero.specs.Counters.{drawn, next}
use Rattle.dg_zero.specs.Records.{record_of, records, ts_of}
use Rattle.dg_zero.specs.Legal.{Fits, IsLegal}
use Rattle.dg_zero.specs.Laws.{RecordsAscend}
use Rattle.dg_zero.proofs.Histories.{next_push, records_push}
use Rattle.dg_zero.proofs.LawsOfHistories.{kept_from, anyone}

-- the records ascend, and are below a timestamp
record AreBelow (rs : List Record) (next : ℕ) : Type 0 where
  ascend : Ascends 0 (map ts_of rs)
  drawn_are : AllByRecursion (λ ts. ts < next) (map ts_of rs)

one_more : (rs : List Record) (r : Record) (a b : ℕ) → 0 < a → a < r.ts + 1 → r.ts < b → AreBelow rs a → AreBelow (rs ++ r ∷ []) b
one_more rs r a b pos le lt t = record {
  ascend = rw map_push (ascends_push 0 (map ts_of rs) r.ts (omega arith) t.ascend (below_more a r.ts (map ts_of rs) (omega arith) t.drawn_are));
  drawn_are = rw map_push (all_push (λ ts. ts < b) (map ts_of rs) r.ts (below_more a b (map ts_of rs) (omega arith) t.drawn_are) lt);
}

none_more : (rs : List Record) (a b : ℕ) → a ≤ b → AreBelow rs a → AreBelow (rs ++ []) b
none_more rs a b le t =
    rw append-nil (record { ascend = t.ascend; drawn_are = below_more a b (map ts_of rs) le t.drawn_are })

in_turn_after : (n : ℕ) (g : List Entry) (author : ℕ) (event : Event) → Fits n g author event → AreBelow (records g) (next g) → AreBelow (records g ++ record_of event) (next g + drawn event)
in_turn_after n g author (Commit start preds keys asked written) f t = one_more (records g) written (next g) (next g + 1) (omega arith) (omega (arith, f.ts)) (omega (arith, f.ts)) t
in_turn_after n g author (Alter start newer written) f t = one_more (records g) written (next g) (next g + 2) (omega arith) (omega (arith, f.1.ts, f.1.start_is)) (omega (arith, f.1.ts, f.1.start_is)) t
in_turn_after n g author event f t = none_more (records g) (next g) (next g + drawn event) (omega arith) t

pub records_ascend : RecordsAscend
records_ascend n h l =
    let t = kept_from n (λ a. Unit {0}) (λ g. AreBelow (records g) (next g)) step [] h tt l (anyone h) (record { ascend = tt; drawn_are = tt }) in
    record { ascend = t.ascend; drawn = t.drawn_are }
  where
    step : (g : List Entry) (e : Entry) → Unit {0} → IsLegal n g → Fits n g e.author e.event → AreBelow (records g) (next g) → AreBelow (records (g ++ e ∷ [])) (next (g ++ e ∷ []))
    step g e o l f t = rw (records_push, next_push) (in_turn_after n g e.author e.event f t)
