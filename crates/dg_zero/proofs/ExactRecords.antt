-- One more entry keeps the records of a history exact.
use Rattle.std.proofs.Common.{◌≡◌, ◌<◌, ◌≤◌, ◌-◌, ◌∙◌, sym, ap, subst, arith, ℕ, List, [], ◌∷◌, ◌++◌, false, cond, map}
use Rattle.std.specs.Prelude.{nat_le, None}
use Rattle.std.specs.List.{AllByRecursion}
use Rattle.std.proofs.lemmas.Grind.{common_steps}
use Rattle.dg_sets.proofs.Sets.{all_with}
use Rattle.dg_delta.specs.Ops.{changes_between}
use Rattle.dg_schema.specs.Definitions.{definition_of}
use Rattle.dg_keys.specs.declared.key.Key.{Key}
use Rattle.dg_keys.specs.declared.record.Record.{Record}
use Rattle.dg_zero.specs.declared.entry.Entry.{Entry}
use Rattle.dg_zero.specs.declared.entry.Event.{Event}
use Rattle.dg_zero.specs.declared.entry.Event.TheVariants.{Commit, Alter}
use Rattle.dg_zero.specs.Counters.{next, last}
use Rattle.dg_zero.specs.Exact.{listed_at, IsExact, IsExactNow}
use Rattle.dg_zero.specs.ExactLaws.{EntriesKeepExact}
use Rattle.dg_zero.specs.Worlds.{World, world, world_at, world_after, schema_at}
use Rattle.dg_zero.specs.Listings.{listing}
use Rattle.dg_zero.specs.Records.{record_of, records, ts_of}
use Rattle.dg_zero.specs.Legal.{Fits, IsLegal}
use Rattle.dg_zero.proofs.Histories.{next_push, records_push}
use Rattle.dg_zero.proofs.LawsOfHistories.{legal_parts, no_more, world_push, world_at_push, present_is_last}
use Rattle.dg_zero.proofs.RecordsInTurn.{records_ascend}

all_joined : {X : Type 0} (P : X → Type 0) (xs ys : List X) → AllByRecursion P xs → AllByRecursion P ys → AllByRecursion P (xs ++ ys)
all_joined P [] ys a b = b
all_joined P (x ∷ xs) ys a b = (a.0, all_joined P xs ys a.1 b)

-- ---- an older record

world_longer : (n : ℕ) (h : List Entry) (e : Entry) (at : ℕ) → Fits n h e.author e.event → at < next h → world_at (h ++ e ∷ []) at ≡ world_at h at
world_longer n h e at f lt = world_at_push h e at ∙ no_more n h e.author e.event (world_at h at) at lt f

listed_longer : (n : ℕ) (h : List Entry) (e : Entry) (at : ℕ) (key : Key) → Fits n h e.author e.event → at < next h → listed_at (h ++ e ∷ []) at key ≡ listed_at h at key
listed_longer n h e at key f lt = λ i. listing (world_longer n h e at f lt i).schema (world_longer n h e at f lt i).graph key

older_exact : (n : ℕ) (h : List Entry) (e : Entry) → Fits n h e.author e.event → (r : Record) → r.ts < next h → IsExact h r → IsExact (h ++ e ∷ []) r
older_exact n h e f r lt x = record {
  parts = x.parts;
  exact = λ key. x.exact key ∙ (λ i. changes_between (sym (listed_longer n h e (r.ts - 1) key f (omega (arith, lt))) i) (sym (listed_longer n h e r.ts key f lt) i));
  fresh = all_with (λ t. (at : ℕ) → at < r.ts → definition_of (schema_at h at) t.pred ≡ None) (λ t. (at : ℕ) → at < r.ts → definition_of (schema_at (h ++ e ∷ []) at) t.pred ≡ None) r.fresh (λ t g at le. (λ i. definition_of (world_longer n h e at f (omega (arith, le, lt)) i).schema t.pred) ∙ g at le) x.fresh;
}

all_older : (n : ℕ) (h : List Entry) (e : Entry) → Fits n h e.author e.event → (rs : List Record) → AllByRecursion (λ ts. ts < next h) (map ts_of rs) → AllByRecursion (IsExact h) rs → AllByRecursion (IsExact (h ++ e ∷ [])) rs
all_older n h e f [] d x = tt
all_older n h e f (r ∷ rs) d x = (older_exact n h e f r d.0 x.0, all_older n h e f rs d.1 x.1)

-- ---- the new one: what was listed below it is listed at present

module _ (n : ℕ) (h : List Entry) (e : Entry) (l : IsLegal n (h ++ e ∷ [])) (before : IsLegal n h) (f : Fits n h e.author e.event) where
  -- at the timestamp of the entry's record
  then_at : (ts : ℕ) → last (h ++ e ∷ []) ≤ ts → world_at (h ++ e ∷ []) ts ≡ world_after (world h) e.event
  then_at ts le = present_is_last n (h ++ e ∷ []) ts l le ∙ world_push h e

  now_at : (at : ℕ) → last h ≤ at → at < next h → world_at (h ++ e ∷ []) at ≡ world h
  now_at at le lt = world_longer n h e at f lt ∙ present_is_last n h at before le

new_exact : (n : ℕ) (h : List Entry) (author : ℕ) (event : Event) → IsLegal n (h ++ (record { author = author; event = event }) ∷ []) → IsLegal n h → Fits n h author event → IsExactNow h event → AllByRecursion (IsExact (h ++ (record { author = author; event = event }) ∷ [])) (record_of event)
new_exact n h author (Commit start preds keys asked written) l before f x =
    let e : Entry = record { author = author; event = Commit start preds keys asked written } in
    let grown = next_push h e in
    let low : world_at (h ++ e ∷ []) (written.ts - 1) ≡ world h = now_at n h e l before f (written.ts - 1) (omega (arith, f.ts)) (omega (arith, f.ts)) in
    let high : world_at (h ++ e ∷ []) written.ts ≡ world_after (world h) e.event = then_at n h e l before f written.ts (omega (arith, f.ts, grown)) in (
      record {
        parts = f.sound.parts_are.parts_are;
        exact = λ key. x key ∙ (λ i. changes_between (listing (sym low i).schema (sym low i).graph key) (listing (sym high i).schema (sym high i).graph key));
        fresh = rw f.no_tablet tt;
      },
      tt,
    )
new_exact n h author (Alter start newer written) l before f x =
    let e : Entry = record { author = author; event = Alter start newer written } in
    let grown = next_push h e in
    let early : nat_le written.ts (written.ts - 1) ≡ false = grind (arith, common_steps, f.1.ts, f.1.start_is) in
    let low : world_at (h ++ e ∷ []) (written.ts - 1) ≡ world h =
    world_at_push h e (written.ts - 1) ∙ ((λ i. cond (early i) (world_after (world_at h (written.ts - 1)) e.event) (world_at h (written.ts - 1))) ∙ present_is_last n h (written.ts - 1) before (omega (arith, f.1.ts, f.1.start_is))) in
    let high : world_at (h ++ e ∷ []) written.ts ≡ world_after (world h) e.event = then_at n h e l before f written.ts (omega (arith, f.1.ts, f.1.start_is, grown)) in (
      record {
        parts = f.1.parts_are.parts_are;
        exact = λ key. f.1.parts_are.exact key ∙ (λ i. changes_between (listing (sym low i).schema (sym low i).graph key) (listing (sym high i).schema (sym high i).graph key));
        fresh = all_with (λ t. (at : ℕ) → definition_of (schema_at h at) t.pred ≡ None) (λ t. (at : ℕ) → at < written.ts → definition_of (schema_at (h ++ e ∷ []) at) t.pred ≡ None) written.fresh (λ t g at lt. ap (λ (w : World). definition_of w.schema t.pred) (still at lt) ∙ g at) x;
      },
      tt,
    )
  where
    not_yet : (at : ℕ) → at < written.ts → nat_le written.ts at ≡ false
    not_yet at lt = grind (arith, common_steps)

    still : (at : ℕ) → at < written.ts → world_at (h ++ (record { author = author; event = Alter start newer written }) ∷ []) at ≡ world_at h at
    still at lt =
        world_at_push h (record { author = author; event = Alter start newer written }) at
        ∙ (λ i. cond (not_yet at lt i) (world_after (world_at h at) (Alter start newer written)) (world_at h at))
new_exact n h author event l before f x = tt

pub entries_keep_exact : EntriesKeepExact
entries_keep_exact n h e l x a =
    let p = legal_parts n [] h (e ∷ []) l in
    subst (λ (rs : List Record). AllByRecursion (IsExact (h ++ e ∷ [])) rs) (sym (records_push h e))
    (all_joined (IsExact (h ++ e ∷ [])) (records h) (record_of e.event) (all_older n h e p.1.0 (records h) (records_ascend n h p.0).drawn a) (new_exact n h e.author e.event l p.0 p.1.0 x))
