-- What happens besides the records keeps a group in step.
use Rattle.std.proofs.Common.{◌≡◌, ◌<◌, ◌≤◌, ◌-◌, ◌∙◌, sym, ap, subst, arith, refl, ℕ, List, [], ◌∷◌, ◌++◌, Bool, true, false, cond, map, inl, inr, append_assoc}
use Rattle.std.specs.Prelude.{◌||◌, ◌&&◌, ◌==◌, nat_le, nat_lt, Option, Some, None, filter, find, option_map}
use Rattle.std.specs.List.{AllByRecursion, list_any}
use Rattle.std.proofs.lemmas.List.{append-nil}
use Rattle.std.proofs.lemmas.Grind.{common_steps}
use Rattle.dg_sets.proofs.Sets.{all_with}
use Rattle.dg_keys.specs.declared.key.Key.{Key}
use Rattle.dg_keys.specs.declared.record.Record.{Record}
use Rattle.dg_keys.specs.declared.record.Tablet.{Tablet}
use Rattle.dg_store.specs.Stores.{list_at}
use Rattle.dg_zero.specs.declared.entry.Entry.{Entry}
use Rattle.dg_zero.specs.declared.entry.Event.{Event}
use Rattle.dg_zero.specs.declared.entry.Event.TheVariants.{Commit, Alter}
use Rattle.dg_zero.specs.Counters.{next}
use Rattle.dg_zero.specs.Worlds.{world_at}
use Rattle.dg_zero.specs.Listings.{listing}
use Rattle.dg_zero.specs.Places.{Places, places, places_after, copies, copy_at, fresh_copy}
use Rattle.dg_zero.specs.Records.{record_of, records, ts_of}
use Rattle.dg_zero.specs.Legal.{Fits, IsLegal, IsLegalAfter}
use Rattle.dg_zero.proofs.Histories.{next_push, places_push, records_push}
use Rattle.dg_zero.proofs.LawsOfHistories.{world_at_push, no_more}
use Rattle.dg_zero.proofs.RecordsInTurn.{records_ascend}
use Rattle.dg_group.specs.declared.copied.Copied.{Copied}
use Rattle.dg_group.specs.Groups.{is_open_at}
use Rattle.dg_group.specs.Stands.{NoneBetween, IsReached, IsReadable, CopyStands, IsListed, IsLast, is_brought, has_tablet, standing_in, records_above, IsAsItCame}
use Rattle.dg_zero.specs.Exact.{listed_at}
use Rattle.dg_group.specs.Laws.{EntriesKeepInStep, AllAppliedIsReadable}
use Rattle.dg_group.proofs.Lists.{laid_at, settled}
use Rattle.dg_group.proofs.Between.{none_pass, pass_none, none_fewer, world_same, all_front}
use Rattle.dg_group.proofs.Applied.{split_le, open_before}

-- ---- a history and its last entry

pub legal_last : (n : ℕ) (before h : List Entry) (e : Entry) → IsLegalAfter n before (h ++ e ∷ []) → IsLegalAfter n before h × Fits n (before ++ h) e.author e.event
legal_last n before [] e l = (tt, subst (λ (b : List Entry). Fits n b e.author e.event) (sym (append-nil before)) l.0)
legal_last n before (d ∷ h) e l =
    let r = legal_last n (before ++ d ∷ []) h e l.1 in
    ((l.0, r.0), subst (λ (b : List Entry). Fits n b e.author e.event) (append_assoc before (d ∷ []) h) r.1)

-- a record of the last entry is at or above the next timestamp before it
pub late : (n : ℕ) (h : List Entry) (author : ℕ) (event : Event) → Fits n h author event → AllByRecursion (λ r. next h ≤ r.ts) (record_of event)
late n h author (Commit start preds keys asked written) f = (omega (arith, f.ts), tt)
late n h author (Alter start newer written) f = (omega (arith, f.1.ts, f.1.start_is), tt)
late n h author event f = tt

pub all_joined : {X : Type 0} (P : X → Type 0) (xs ys : List X) → AllByRecursion P xs → AllByRecursion P ys → AllByRecursion P (xs ++ ys)
all_joined P [] ys a b = b
all_joined P (x ∷ xs) ys a b = (a.0, all_joined P xs ys a.1 b)

-- ---- timestamps

over : (a b t low : ℕ) → b < low → low ≤ t → (nat_lt a t && nat_le t b) ≡ false
over a b t low lt le = grind (arith, common_steps)

not_le : (b t low : ℕ) → b < low → low ≤ t → nat_le t b ≡ false
not_le b t low lt le = grind (arith, common_steps)

pub any_joined : {X : Type 0} (f : X → Bool) (xs ys : List X) → list_any f (xs ++ ys) ≡ (list_any f xs || list_any f ys)
any_joined f [] ys = refl
any_joined f (x ∷ xs) ys = ap (λ b. f x || b) (any_joined f xs ys) ∙ assoc (f x) (list_any f xs) (list_any f ys)
  where
    assoc : (a b c : Bool) → (a || (b || c)) ≡ ((a || b) || c)
    assoc true b c = refl
    assoc false b c = refl

pub or_true : (a b : Bool) → a ≡ true → (a || b) ≡ true
or_true true b e = refl
or_true false b e = absurd (cc)

or_false : (a b : Bool) → b ≡ false → (a || b) ≡ a
or_false true b e = refl
or_false false b e = e

-- ---- what is between in a longer history

module _ (n : ℕ) (h : List Entry) (e : Entry) (f : Fits n h e.author e.event) where
  abbrev longer : List Entry
  longer = h ++ e ∷ []

  none_front : (a b : ℕ) → NoneBetween longer a b → NoneBetween h a b
  none_front a b p =
      pass_none (λ r. nat_lt a r.ts && nat_le r.ts b) (records h)
      (all_front (λ r. (nat_lt a r.ts && nat_le r.ts b) ≡ false) (records h) (record_of e.event) (subst (λ (rs : List Record). AllByRecursion (λ r. (nat_lt a r.ts && nat_le r.ts b) ≡ false) rs) (records_push h e) (none_pass (λ r. nat_lt a r.ts && nat_le r.ts b) (records longer) p))).0

  none_longer : (a b : ℕ) → b < next h → NoneBetween h a b → NoneBetween longer a b
  none_longer a b lt p =
      pass_none (λ r. nat_lt a r.ts && nat_le r.ts b) (records longer)
      (subst (λ (rs : List Record). AllByRecursion (λ r. (nat_lt a r.ts && nat_le r.ts b) ≡ false) rs) (sym (records_push h e))
      (all_joined (λ r. (nat_lt a r.ts && nat_le r.ts b) ≡ false) (records h) (record_of e.event) (none_pass (λ r. nat_lt a r.ts && nat_le r.ts b) (records h) p)
      (all_with (λ r. next h ≤ r.ts) (λ r. (nat_lt a r.ts && nat_le r.ts b) ≡ false) (record_of e.event) (λ r le. over a b r.ts (next h) lt le) (late n h e.author e.event f))))

  pub world_longer : (at : ℕ) → at < next h → world_at longer at ≡ world_at h at
  world_longer at lt = world_at_push h e at ∙ no_more n h e.author e.event (world_at h at) at lt f

  pub listed_longer : (at : ℕ) (key : Key) → at < next h → listed_at longer at key ≡ listed_at h at key
  listed_longer at key lt = λ i. listing (world_longer at lt i).schema (world_longer at lt i).graph key

  pub brought_longer : (last : ℕ) (pred : List ℕ) → last < next h → is_brought longer last pred ≡ is_brought h last pred
  brought_longer last pred lt =
      ap (list_any (λ r. nat_le r.ts last && has_tablet pred r.fresh)) (records_push h e)
      ∙ any_joined (λ r. nat_le r.ts last && has_tablet pred r.fresh) (records h) (record_of e.event)
      ∙ or_false (list_any (λ r. nat_le r.ts last && has_tablet pred r.fresh) (records h)) (list_any (λ r. nat_le r.ts last && has_tablet pred r.fresh) (record_of e.event)) (none_of (record_of e.event) (late n h e.author e.event f))
    where
      none_of : (rs : List Record) → AllByRecursion (λ r. next h ≤ r.ts) rs → list_any (λ r. nat_le r.ts last && has_tablet pred r.fresh) rs ≡ false
      none_of [] a = refl
      none_of (r ∷ rs) a = rw (not_le last r.ts (next h) lt a.0, none_of rs a.1) refl

  -- ---- one copy

  module _ (last : ℕ) (c : Copied) (lt : last < next h) (low : c.mark < next h) (s : CopyStands h last c) where
    abbrev before : ℕ
    before = next h - 1

    still : (at : ℕ) → at < next h → IsReadable longer last c at → IsReadable h last c at
    still at less r = record { from = r.from; open_is = r.open_is; reached = by r.reached }
      where
        by : IsReached longer last at → IsReached h last at
        by (inl le) = inl le
        by (inr p) = inr (less, none_front last at p.1)

    readable_before : (at : ℕ) → next h ≤ at → is_open_at c.until at ≡ true → NoneBetween longer last at → IsReadable h last c before
    readable_before at le o p = record {
      from = omega (arith, low);
      open_is = open_before c.until before at (omega (arith, le)) o;
      reached = inr (omega (arith, lt), none_front last before (none_fewer longer last at last before (omega arith) (omega (arith, le)) p));
    }

    since : (at : ℕ) → next h ≤ at → IsReached longer last at → NoneBetween longer last at
    since at le (inl m) = absurd (omega (arith, le, m, lt))
    since at le (inr p) = p.1

    listed_still : IsListed longer last c
    listed_still at r key own =
        split_le (next h) at
        (λ le.
        let p = since at le r.reached in
        settled c.mark last at before (list_at key c.store) (omega (arith, lt, le)) (omega (arith, lt)) (laid_at c.mark last key c.store s.kept.laid)
        ∙ s.listed before (readable_before at le r.open_is p) key own
        ∙ sym (listed_longer before key (omega (arith, lt)))
        ∙ sym (λ i. listing (world_same longer before at (omega (arith, le)) (none_fewer longer last at before at (omega (arith, lt)) (omega arith) p) i).schema (world_same longer before at (omega (arith, le)) (none_fewer longer last at before at (omega (arith, lt)) (omega arith) p) i).graph key))
        (λ less. s.listed at (still at less r) key own ∙ sym (listed_longer at key less))

    copy_still : CopyStands longer last c
    copy_still = record { listed = listed_still; kept = s.kept; changing = s.changing; marked = none_longer last c.mark low s.marked }

  pub all_still : (last : ℕ) → last < next h → (cs : List Copied) → AllByRecursion (λ c. c.mark < next h) cs → AllByRecursion (CopyStands h last) cs → AllByRecursion (CopyStands longer last) cs
  all_still last lt [] a s = tt
  all_still last lt (c ∷ cs) a s = (copy_still last c lt a.0 s.0, all_still last lt cs a.1 s.1)

-- ---- the last timestamp was drawn

pub last_drawn : (n : ℕ) (h : List Entry) (last : ℕ) → IsLegal n h → IsLast h last → last < next h
last_drawn n h last l (inl e) = omega (arith, e)
last_drawn n h last l (inr e) = among (records h) (records_ascend n h l).drawn e
  where
    among : (rs : List Record) → AllByRecursion (λ ts. ts < next h) (map ts_of rs) → list_any (λ r. r.ts == last) rs ≡ true → last < next h
    among [] a e = absurd (cc)
    among (r ∷ rs) a e = by (r.ts == last) refl e (λ q. among rs a.1 q)
      where
        is : (r.ts == last) ≡ true → last < next h
        is p = let lt : r.ts < next h = a.0 in grind (arith, common_steps)

        by : (v : Bool) → (r.ts == last) ≡ v → (v || list_any (λ r. r.ts == last) rs) ≡ true → (list_any (λ r. r.ts == last) rs ≡ true → last < next h) → last < next h
        by true p q rest = is p
        by false p q rest = rest q

-- ---- an entry that leaves the copies brings no tablet

abbrev tail_of : {X : Type 0} → List X → List X
tail_of [] = []
tail_of (x ∷ xs) = xs

nothing_more : {X : Type 0} (xs ys : List X) → xs ++ ys ≡ xs → ys ≡ []
nothing_more [] ys e = e
nothing_more (x ∷ xs) ys e = nothing_more xs ys (ap tail_of e)

no_tablets : (ts : List Tablet) → map fresh_copy ts ≡ [] → ts ≡ []
no_tablets [] e = refl
no_tablets (t ∷ ts) e = absurd (cc)

none_fresh : (n : ℕ) (h : List Entry) (author : ℕ) (event : Event) → Fits n h author event → (places_after (places h) event).copies ≡ copies h → AllByRecursion (λ r. r.fresh ≡ []) (record_of event)
none_fresh n h author (Commit start preds keys asked written) f e = (f.no_tablet, tt)
none_fresh n h author (Alter start newer written) f e = (no_tablets written.fresh (nothing_more (copies h) (map fresh_copy written.fresh) e), tt)
none_fresh n h author event f e = tt

all_kept : {X : Type 0} (P Q : X → Type 0) (test : X → Bool) (xs : List X) → ((x : X) → P x → Q x) → AllByRecursion P (filter test xs) → AllByRecursion Q (filter test xs)
all_kept P Q test xs f a = all_with P Q (filter test xs) f a

pub filter_joined : {X : Type 0} (test : X → Bool) (xs ys : List X) → filter test (xs ++ ys) ≡ filter test xs ++ filter test ys
filter_joined test [] ys = refl
filter_joined test (x ∷ xs) ys = by (test x) (filter_joined test xs ys)
  where
    by : (v : Bool) → filter test (xs ++ ys) ≡ filter test xs ++ filter test ys → cond v (x ∷ filter test (xs ++ ys)) (filter test (xs ++ ys)) ≡ cond v (x ∷ filter test xs) (filter test xs) ++ filter test ys
    by true e = ap (λ zs. x ∷ zs) e
    by false e = e

all_filtered : {X : Type 0} (P : X → Type 0) (test : X → Bool) (xs : List X) → AllByRecursion P xs → AllByRecursion P (filter test xs)
all_filtered P test [] a = tt
all_filtered P test (x ∷ xs) a = by (test x) (all_filtered P test xs a.1)
  where
    by : (v : Bool) → AllByRecursion P (filter test xs) → AllByRecursion P (cond v (x ∷ filter test xs) (filter test xs))
    by true rest = (a.0, rest)
    by false rest = rest

pub entries_keep_in_step : EntriesKeepInStep
entries_keep_in_step n h e group l same s =
    let p = legal_last n [] h e l in
    let f = p.1 in
    let lt = last_drawn n h group.last p.0 s.stands.applied in
    let here : (places_after (places h) e.event).copies ≡ copies h = ap (λ (q : Places). q.copies) (sym (places_push h e)) ∙ same in
    let grown = next_push h e in
    record {
      stands = record {
        applied = still_last s.stands.applied;
        copies_are = λ pred. s.stands.copies_are pred ∙ (λ i. cond (sym (brought_longer n h e f group.last pred lt) i) (option_map standing_in (copy_at (sym same i) pred group.number)) None);
        each = all_still n h e f group.last lt group.copies s.drawn s.stands.each;
      };
      ascend = s.ascend;
      drawn = all_with (λ c. c.mark < next h) (λ c. c.mark < next (h ++ e ∷ [])) group.copies (λ c a. omega (arith, a, grown)) s.drawn;
      unmet = unmet_still f here;
    }
  where
    still_last : IsLast h group.last → IsLast (h ++ e ∷ []) group.last
    still_last (inl z) = inl z
    still_last (inr z) =
        inr (ap (list_any (λ r. r.ts == group.last)) (records_push h e) ∙ (any_joined (λ r. r.ts == group.last) (records h) (record_of e.event) ∙ or_true (list_any (λ r. r.ts == group.last) (records h)) (list_any (λ r. r.ts == group.last) (record_of e.event)) z))

    came : (ts : List Tablet) → AllByRecursion (IsAsItCame h group.number) ts → AllByRecursion (IsAsItCame (h ++ e ∷ []) group.number) ts
    came ts a = all_with (IsAsItCame h group.number) (IsAsItCame (h ++ e ∷ []) group.number) ts (λ t b. (λ i. copy_at (same i) t.pred group.number) ∙ b) a

    none_came : (r : Record) → r.fresh ≡ [] → AllByRecursion (IsAsItCame (h ++ e ∷ []) group.number) r.fresh
    none_came r z = subst (λ (ts : List Tablet). AllByRecursion (IsAsItCame (h ++ e ∷ []) group.number) ts) (sym z) tt

    unmet_still : Fits n h e.author e.event → (places_after (places h) e.event).copies ≡ copies h → AllByRecursion (λ r. AllByRecursion (IsAsItCame (h ++ e ∷ []) group.number) r.fresh) (records_above (h ++ e ∷ []) group.last)
    unmet_still f here =
        subst (λ (rs : List Record). AllByRecursion (λ r. AllByRecursion (IsAsItCame (h ++ e ∷ []) group.number) r.fresh) rs)
        (sym (ap (filter (λ r. nat_lt group.last r.ts)) (records_push h e) ∙ filter_joined (λ r. nat_lt group.last r.ts) (records h) (record_of e.event)))
        (all_joined (λ r. AllByRecursion (IsAsItCame (h ++ e ∷ []) group.number) r.fresh) (records_above h group.last) (filter (λ r. nat_lt group.last r.ts) (record_of e.event))
        (all_with (λ r. AllByRecursion (IsAsItCame h group.number) r.fresh) (λ r. AllByRecursion (IsAsItCame (h ++ e ∷ []) group.number) r.fresh) (records_above h group.last) (λ r a. came r.fresh a) s.unmet)
        (all_with (λ r. r.fresh ≡ []) (λ r. AllByRecursion (IsAsItCame (h ++ e ∷ []) group.number) r.fresh) (filter (λ r. nat_lt group.last r.ts) (record_of e.event)) (λ r z. none_came r z) (all_filtered (λ r. r.fresh ≡ []) (λ r. nat_lt group.last r.ts) (record_of e.event) (none_fresh n h e.author e.event f here))))

-- ---- a group that applied every record

none_found : {X : Type 0} (f : X → Bool) (xs : List X) → find f xs ≡ None → AllByRecursion (λ x. f x ≡ false) xs
none_found f [] e = tt
none_found f (x ∷ xs) e = by (f x) refl e (λ k. none_found f xs k)
  where
    by : (v : Bool) → f x ≡ v → cond v (Some x) (find f xs) ≡ None → (find f xs ≡ None → AllByRecursion (λ x. f x ≡ false) xs) → (f x ≡ false) × AllByRecursion (λ x. f x ≡ false) xs
    by true p e rest = absurd (cc)
    by false p e rest = (p, rest e)

not_between : (a b t : ℕ) → nat_lt a t ≡ false → (nat_lt a t && nat_le t b) ≡ false
not_between a b t e = grind (arith, common_steps)

pub all_applied_is_readable : AllAppliedIsReadable
all_applied_is_readable n h group c at l none until from lt le = record {
  from = from;
  open_is = ap (λ (u : Option ℕ). is_open_at u at) until;
  reached = inr (lt, pass_none (λ r. nat_lt group.last r.ts && nat_le r.ts at) (records h) (all_with (λ r. nat_lt group.last r.ts ≡ false) (λ r. (nat_lt group.last r.ts && nat_le r.ts at) ≡ false) (records h) (λ r z. not_between group.last at r.ts z) (none_found (λ r. nat_lt group.last r.ts) (records h) none)));
}
