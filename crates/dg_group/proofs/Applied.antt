-- The next record keeps a group in step with its history.
use Rattle.std.proofs.Common.{◌≡◌, ◌<◌, ◌≤◌, ◌-◌, ◌∙◌, sym, ap, subst, arith, refl, ℕ, List, [], ◌∷◌, Bool, true, false, cond, map, inl, inr}
use Rattle.std.specs.Prelude.{◌||◌, ◌==◌, nat_le, nat_lt, Option, Some, None, filter, find, option_map}
use Rattle.std.specs.List.{AllByRecursion}
use Rattle.std.specs.Option.{option_or}
use Rattle.std.proofs.lemmas.Grind.{common_steps}
use Rattle.dg_values.specs.Ascending.{Ascends}
use Rattle.dg_values.specs.Order.{posting_cmp, same_text}
use Rattle.dg_sets.proofs.Sets.{all_with, all_passed}
use Rattle.dg_schema.proofs.Names.{same_text-equal}
use Rattle.dg_delta.specs.Ops.{AreOps, after_ops, changes_between}
use Rattle.dg_schema.specs.declared.definition.PredDef.{PredDef}
use Rattle.dg_schema.specs.Definitions.{definition_of}
use Rattle.dg_graph.specs.declared.change.Triple.{Triple}
use Rattle.dg_keys.specs.declared.key.Key.{Key}
use Rattle.dg_keys.specs.declared.record.Record.{Record}
use Rattle.dg_keys.specs.declared.record.Part.{Part}
use Rattle.dg_keys.specs.declared.record.Tablet.{Tablet}
use Rattle.dg_keys.specs.Keys.{pred_of, ops_at}
use Rattle.dg_list.specs.Lists.{reading}
use Rattle.dg_store.specs.Stores.{list_at, held_parts, after_parts}
use Rattle.dg_zero.specs.declared.entry.Entry.{Entry}
use Rattle.dg_zero.specs.Counters.{next}
use Rattle.dg_zero.specs.Worlds.{schema_at, graph_at}
use Rattle.dg_zero.specs.Listings.{listing, listing_by}
use Rattle.dg_zero.specs.Places.{Copy, copies, copy_at}
use Rattle.dg_zero.specs.Records.{records, next_record, ts_of}
use Rattle.dg_zero.specs.Legal.{IsLegal}
use Rattle.dg_zero.proofs.LawfulGraphs.{world_lawful}
use Rattle.dg_zero.proofs.RecordsInTurn.{records_ascend}
use Rattle.dg_group.specs.declared.copied.Copied.{Copied}
use Rattle.dg_group.specs.Groups.{Group, copy_of, is_open_at, new_copy, fresh_at, copy_after, with_fresh, IsLaid}
use Rattle.dg_group.specs.Stands.{NoneBetween, IsReached, IsReadable, EachChanges, IsListed, CopyStands, is_brought, has_tablet, standing_of, standing_in, standing_at, IsAsItCame}
use Rattle.dg_zero.specs.Exact.{listed_at, IsExact, AreExact}
use Rattle.dg_group.specs.Laws.{NextCanBeApplied, NextKeepsInStep}
use Rattle.dg_group.proofs.Lists.{reading_after, reading_before, laid_at, laid_after, raised_to, own_after, PartChanges, changing_after, settled, held_own, held_ops, held_ascend, own_ops}
use Rattle.dg_group.proofs.Leads.{between_leads, none_between, listing_ascends}
use Rattle.dg_group.proofs.Between.{IsNext, next_is, none_fewer, none_back, below_next, world_same, found_at, found_any, brought_next}
use Rattle.dg_group.proofs.Copies.{all_with_fresh, fresh_ascend, found_fresh, found_after, after_ascend, all_after, given, not_given, none_given}

-- what is known of the next record
record Known (h : List Entry) (last : ℕ) (rec : Record) : Type 0 where
  next_one : IsNext h last rec
  exact : IsExact h rec
  drawn : rec.ts < next h
  lawful : (at : ℕ) (key : Key) → Ascends posting_cmp (listed_at h at key)

listed_ascends : (n : ℕ) (h : List Entry) → IsLegal n h → (at : ℕ) (key : Key) → Ascends posting_cmp (listed_at h at key)
listed_ascends n h l at key = listing_ascends (schema_at h at) (graph_at h at []) key (world_lawful n h at l).ascend

known : (n : ℕ) (h : List Entry) (last : ℕ) (rec : Record) → IsLegal n h → AreExact h → next_record h last ≡ Some rec → Known h last rec
known n h last rec l x e =
    let t = records_ascend n h l in
    record {
      next_one = next_is h last rec t.ascend e;
      exact = found_at (IsExact h) (λ r. nat_lt last r.ts) (records h) rec e x;
      drawn = found_at (λ r. r.ts < next h) (λ r. nat_lt last r.ts) (records h) rec e (of_records (records h) t.drawn);
      lawful = listed_ascends n h l;
    }
  where
    of_records : (rs : List Record) → AllByRecursion (λ ts. ts < next h) (map ts_of rs) → AllByRecursion (λ r. r.ts < next h) rs
    of_records [] a = tt
    of_records (r ∷ rs) a = (a.0, of_records rs a.1)

-- a timestamp is at or below another, or above it
pub split_le : {P : Type 0} (a b : ℕ) → (a ≤ b → P) → (b < a → P) → P
split_le {P = P} a b f g = by (nat_le a b) refl
  where
    yes : nat_le a b ≡ true → a ≤ b
    yes e = grind (arith, common_steps)

    no : nat_le a b ≡ false → b < a
    no e = grind (arith, common_steps)

    by : (v : Bool) → nat_le a b ≡ v → P
    by true e = f (yes e)
    by false e = g (no e)

-- what was listed where no record lies between is listed still
listed_same : (h : List Entry) (a b : ℕ) (key : Key) → a ≤ b → NoneBetween h a b → listed_at h b key ≡ listed_at h a key
listed_same h a b key l e = λ i. listing (world_same h a b l e i).schema (world_same h a b l e i).graph key

-- an until that is open at a timestamp is open at an earlier one
pub open_before : (until : Option ℕ) (a b : ℕ) → a ≤ b → is_open_at until b ≡ true → is_open_at until a ≡ true
open_before None a b l e = refl
open_before (Some u) a b l e = earlier e
  where
    earlier : nat_le b u ≡ true → nat_le a u ≡ true
    earlier e = grind (arith, common_steps)

module _ (h : List Entry) (last : ℕ) (rec : Record) (k : Known h last rec) where
  -- just below the record
  abbrev below : ℕ
  below = rec.ts - 1

  last_below : last ≤ below
  last_below = omega (arith, k.next_one.above)

  below_less : below < rec.ts
  below_less = omega (arith, k.next_one.above)

  -- a copy that can be read at or above the record could be read just below it
  readable_below : (c : Copied) (at : ℕ) → c.mark < rec.ts → rec.ts ≤ at → is_open_at c.until at ≡ true → IsReadable h last c below
  readable_below c at lt le o = record {
    from = omega (arith, lt, k.next_one.above);
    open_is = open_before c.until below at (omega (arith, le)) o;
    reached = inr (omega (arith, k.drawn), k.next_one.none);
  }

  -- and one that can be read below it could be read there
  readable_still : (c : Copied) (at : ℕ) → at < rec.ts → c.mark ≤ at → is_open_at c.until at ≡ true → IsReadable h last c at
  readable_still c at lt from o = record {
    from = from;
    open_is = o;
    reached = split_le at last (λ le. inl le) (λ gt. inr (omega (arith, lt, k.drawn), none_fewer h last below last at (omega arith) (omega (arith, lt)) k.next_one.none));
  }

  -- no record lies from this one on to a timestamp at which all was applied
  none_since : (at : ℕ) → rec.ts ≤ at → IsReached h rec.ts at → NoneBetween h rec.ts at
  none_since at le (inl m) = none_back h rec.ts at m
  none_since at le (inr r) = r.1

  -- ---- one copy

  -- the list just below the record leads to the list there
  leads : (c : Copied) (key : Key) (at : ℕ) → CopyStands h last c → c.mark < rec.ts → rec.ts ≤ at → is_open_at c.until at ≡ true → same_text (pred_of key) c.pred ≡ true → reading (list_at key c.store) at ≡ listed_at h below key
  leads c key at s lt le o own =
      settled c.mark last at below (list_at key c.store) (omega (arith, le, k.next_one.above)) last_below (laid_at c.mark last key c.store s.kept.laid)
      ∙ s.listed below (readable_below c at lt le o) key own

  new_reading : (c : Copied) (key : Key) (at : ℕ) → CopyStands h last c → c.mark < rec.ts → rec.ts ≤ at → is_open_at c.until at ≡ true → same_text (pred_of key) c.pred ≡ true → reading (list_at key (after_parts rec.ts c.store (held_parts (c.pred ∷ []) rec.parts))) at ≡ listed_at h rec.ts key
  new_reading c key at s lt le o own =
      reading_after rec.ts c.store (held_parts (c.pred ∷ []) rec.parts) key at le
      ∙ (λ i. after_ops (leads c key at s lt le o own i) (held_ops c.pred rec.parts key own i))
      ∙ ap (after_ops (listed_at h below key)) (k.exact.exact key)
      ∙ between_leads (listed_at h below key) (listed_at h rec.ts key) (k.lawful below key) (k.lawful rec.ts key)

  -- at each timestamp
  listed_then : (c : Copied) → CopyStands h last c → c.mark < rec.ts → IsListed h rec.ts (copy_after rec c)
  listed_then c s lt at r key own =
      split_le rec.ts at
      (λ le.
      let since = none_since at le r.reached in
      let open_then : is_open_at c.until rec.ts ≡ true = open_before c.until rec.ts at le r.open_is in
      (λ i. reading (list_at key (cond (open_then i) (after_parts rec.ts c.store (held_parts (c.pred ∷ []) rec.parts)) c.store)) at)
      ∙ new_reading c key at s lt le r.open_is own
      ∙ sym (listed_same h rec.ts at key le since))
      (λ gt. by_open (is_open_at c.until rec.ts) gt ∙ s.listed at (readable_still c at gt r.from r.open_is) key own)
    where
      by_open : (v : Bool) → at < rec.ts → reading (list_at key (cond v (after_parts rec.ts c.store (held_parts (c.pred ∷ []) rec.parts)) c.store)) at ≡ reading (list_at key c.store) at
      by_open true gt = reading_before rec.ts c.store (held_parts (c.pred ∷ []) rec.parts) key at gt
      by_open false gt = refl

  -- each part changes the list of its key
  part_changes : (c : Copied) (part : Part) → CopyStands h last c → c.mark < rec.ts → is_open_at c.until rec.ts ≡ true → same_text (pred_of part.key) c.pred ≡ true → ops_at rec.parts part.key ≡ part.ops → AreOps part.ops → PartChanges rec.ts c.store part
  part_changes c part s lt o own is ops same =
      let old = leads c part.key rec.ts s lt (omega arith) o own in
      let between : part.ops ≡ changes_between (listed_at h below part.key) (listed_at h rec.ts part.key) = sym is ∙ k.exact.exact part.key in
      let new : after_ops (reading (list_at part.key c.store) rec.ts) part.ops ≡ listed_at h rec.ts part.key =
      (λ i. after_ops (old i) (between i)) ∙ between_leads (listed_at h below part.key) (listed_at h rec.ts part.key) (k.lawful below part.key) (k.lawful rec.ts part.key) in
      let alike : listed_at h below part.key ≡ listed_at h rec.ts part.key = sym old ∙ (sym same ∙ new) in
      ops.some (between ∙ ((λ i. changes_between (alike i) (listed_at h rec.ts part.key)) ∙ none_between (listed_at h rec.ts part.key)))

  all_change : (c : Copied) → CopyStands h last c → c.mark < rec.ts → is_open_at c.until rec.ts ≡ true → (parts : List Part) → AllByRecursion (λ (p : Part). same_text (pred_of p.key) c.pred ≡ true) parts → AllByRecursion (λ (p : Part). ops_at rec.parts p.key ≡ p.ops) parts → AllByRecursion (λ (p : Part). AreOps p.ops) parts → AllByRecursion (PartChanges rec.ts c.store) parts
  all_change c s lt o [] a b d = tt
  all_change c s lt o (part ∷ parts) a b d = (part_changes c part s lt o a.0 b.0 d.0, all_change c s lt o parts a.1 b.1 d.1)

  -- a copy after the record agrees
  copy_stands : (c : Copied) → CopyStands h last c → c.mark < rec.ts → CopyStands h rec.ts (copy_after rec c)
  copy_stands c s lt = record {
    listed = listed_then c s lt;
    kept = record { own = own_then (is_open_at c.until rec.ts); laid = laid_then (is_open_at c.until rec.ts) };
    changing = changing_then (is_open_at c.until rec.ts) refl;
    marked = none_fewer h last c.mark rec.ts c.mark (omega (arith, k.next_one.above)) (omega arith) s.marked;
  }
    where
      parts_of : List Part
      parts_of = held_parts (c.pred ∷ []) rec.parts

      own_then : (v : Bool) → AllByRecursion (λ e. same_text (pred_of e.0) c.pred ≡ true) (cond v (after_parts rec.ts c.store (held_parts (c.pred ∷ []) rec.parts)) c.store)
      own_then true = own_after c.pred rec.ts c.store (held_parts (c.pred ∷ []) rec.parts) (held_own c.pred rec.parts) s.kept.own
      own_then false = s.kept.own

      laid_then : (v : Bool) → AllByRecursion (λ e. IsLaid c.mark rec.ts e.1) (cond v (after_parts rec.ts c.store (held_parts (c.pred ∷ []) rec.parts)) c.store)
      laid_then true = laid_after c.mark last rec.ts c.store (held_parts (c.pred ∷ []) rec.parts) lt (omega (arith, k.next_one.above)) s.kept.laid
      laid_then false = raised_to c.mark last rec.ts c.store (omega (arith, k.next_one.above)) s.kept.laid

      changing_then : (v : Bool) → is_open_at c.until rec.ts ≡ v → AllByRecursion (λ e. EachChanges e.1.base e.1.layers) (cond v (after_parts rec.ts c.store (held_parts (c.pred ∷ []) rec.parts)) c.store)
      changing_then true o =
          changing_after rec.ts c.store (held_parts (c.pred ∷ []) rec.parts) (held_ascend (c.pred ∷ []) rec.parts k.exact.parts.ascend)
          (all_change c s lt o (held_parts (c.pred ∷ []) rec.parts) (held_own c.pred rec.parts) (all_passed (λ p. ops_at rec.parts p.key ≡ p.ops) _ rec.parts (own_ops rec.parts k.exact.parts.ascend)) (all_passed (λ p. AreOps p.ops) _ rec.parts k.exact.parts.each))
          s.changing
      changing_then false o = s.changing

  -- ---- the copy of a new tablet, before the record

  nothing_listed : (d : Option PredDef) (graph : List Triple) (key : Key) → d ≡ None → [] ≡ listing_by d graph key
  nothing_listed None graph key e = refl
  nothing_listed (Some def) graph key e = absurd (cc)

  new_stands : next_record h last ≡ Some rec → (t : Tablet) → ((at : ℕ) → at < rec.ts → definition_of (schema_at h at) t.pred ≡ None) → CopyStands h last (new_copy t)
  new_stands e t fresh = record {
    listed = λ at r key own. nothing_listed (definition_of (schema_at h at) (pred_of key)) (graph_at h at []) key (ap (definition_of (schema_at h at)) (same_text-equal (pred_of key) t.pred own) ∙ fresh at (early at r.reached));
    kept = record { own = tt; laid = tt };
    changing = tt;
    marked = none_back h last 0 (omega arith);
  }
    where
      early : (at : ℕ) → IsReached h last at → at < rec.ts
      early at (inl le) = omega (arith, k.next_one.above, le)
      early at (inr r) = below_next h last rec at e r.1

-- ---- the whole group

-- the marks are below the next record
marks_below : (h : List Entry) (last : ℕ) (rec : Record) (cs : List Copied) → next_record h last ≡ Some rec → AllByRecursion (CopyStands h last) cs → AllByRecursion (λ c. c.mark < rec.ts) cs
marks_below h last rec cs e a = all_with (CopyStands h last) (λ c. c.mark < rec.ts) cs (λ c s. below_next h last rec c.mark e s.marked) a

pub next_can_be_applied : NextCanBeApplied
next_can_be_applied n h group rec l x s e =
    let k = known n h group.last rec l x e in
    record { parts = k.exact.parts; newer = k.next_one.above; above = marks_below h group.last rec group.copies e s.stands.each }

-- a copy agrees, and its mark is below a timestamp
record StandsBelow (h : List Entry) (last ts : ℕ) (c : Copied) : Type 0 where
  stands : CopyStands h last c
  below_it : c.mark < ts

above_zero : (a b : ℕ) → a < b → 0 < b
above_zero a b lt = omega (arith, lt)

all_below : (h : List Entry) (last : ℕ) (rec : Record) (cs : List Copied) → next_record h last ≡ Some rec → AllByRecursion (CopyStands h last) cs → AllByRecursion (StandsBelow h last rec.ts) cs
all_below h last rec cs e a = all_with (CopyStands h last) (StandsBelow h last rec.ts) cs (λ c s. record { stands = s; below_it = below_next h last rec c.mark e s.marked }) a

new_below : (h : List Entry) (last : ℕ) (rec : Record) (k : Known h last rec) (ts : List Tablet) → next_record h last ≡ Some rec → AllByRecursion (λ t. (at : ℕ) → at < rec.ts → definition_of (schema_at h at) t.pred ≡ None) ts → AllByRecursion (λ t. StandsBelow h last rec.ts (new_copy t)) ts
new_below h last rec k [] e a = tt
new_below h last rec k (t ∷ ts) e a =
    (record { stands = new_stands h last rec k e t a.0; below_it = above_zero last rec.ts k.next_one.above }, new_below h last rec k ts e a.1)

-- a record that isn't applied yet
unmet_next : (h : List Entry) (number last ts : ℕ) (rs : List Record) → last < ts → AllByRecursion (λ r. AllByRecursion (IsAsItCame h number) r.fresh) (filter (λ r. nat_lt last r.ts) rs) → AllByRecursion (λ r. AllByRecursion (IsAsItCame h number) r.fresh) (filter (λ r. nat_lt ts r.ts) rs)
unmet_next h number last ts [] lt a = tt
unmet_next h number last ts (r ∷ rs) lt a = by (nat_lt last r.ts) (nat_lt ts r.ts) refl refl a (λ b. unmet_next h number last ts rs lt b)
  where
    too_late : (t : ℕ) → nat_lt last t ≡ false → nat_lt ts t ≡ true → ⊥
    too_late t p q = grind (arith, common_steps)

    by : (v w : Bool) → nat_lt last r.ts ≡ v → nat_lt ts r.ts ≡ w → AllByRecursion (λ r. AllByRecursion (IsAsItCame h number) r.fresh) (cond v (r ∷ filter (λ r. nat_lt last r.ts) rs) (filter (λ r. nat_lt last r.ts) rs)) → (AllByRecursion (λ r. AllByRecursion (IsAsItCame h number) r.fresh) (filter (λ r. nat_lt last r.ts) rs) → AllByRecursion (λ r. AllByRecursion (IsAsItCame h number) r.fresh) (filter (λ r. nat_lt ts r.ts) rs)) → AllByRecursion (λ r. AllByRecursion (IsAsItCame h number) r.fresh) (cond w (r ∷ filter (λ r. nat_lt ts r.ts) rs) (filter (λ r. nat_lt ts r.ts) rs))
    by true true p q a rest = (a.0, rest a.1)
    by true false p q a rest = rest a.1
    by false true p q a rest = absurd (too_late r.ts p q)
    by false false p q a rest = rest a

-- the next record is one of those that aren't applied
unmet_first : (h : List Entry) (number last : ℕ) (rs : List Record) (rec : Record) → find (λ r. nat_lt last r.ts) rs ≡ Some rec → AllByRecursion (λ r. AllByRecursion (IsAsItCame h number) r.fresh) (filter (λ r. nat_lt last r.ts) rs) → AllByRecursion (IsAsItCame h number) rec.fresh
unmet_first h number last [] rec e a = absurd (cc)
unmet_first h number last (r ∷ rs) rec e a = by (nat_lt last r.ts) e a (λ f b. unmet_first h number last rs rec f b)
  where
    same : Some r ≡ Some rec → r ≡ rec
    same e = cc

    by : (v : Bool) → cond v (Some r) (find (λ r. nat_lt last r.ts) rs) ≡ Some rec → AllByRecursion (λ r. AllByRecursion (IsAsItCame h number) r.fresh) (cond v (r ∷ filter (λ r. nat_lt last r.ts) rs) (filter (λ r. nat_lt last r.ts) rs)) → (find (λ r. nat_lt last r.ts) rs ≡ Some rec → AllByRecursion (λ r. AllByRecursion (IsAsItCame h number) r.fresh) (filter (λ r. nat_lt last r.ts) rs) → AllByRecursion (IsAsItCame h number) rec.fresh) → AllByRecursion (IsAsItCame h number) rec.fresh
    by true e a rest = subst (λ (x : Record). AllByRecursion (IsAsItCame h number) x.fresh) (same e) a.0
    by false e a rest = rest e a

-- which copies there are
module _ (h : List Entry) (group : Group) (rec : Record) (pred : List ℕ) where
  abbrev given_here : Option Tablet
  given_here = find (λ t. same_text t.pred pred) (filter (λ t. t.group == group.number) rec.fresh)

  standing_then : AllByRecursion (IsAsItCame h group.number) rec.fresh → option_map standing_of (copy_of group.copies pred) ≡ standing_at h group.number group.last pred → option_map standing_of (option_or (copy_of group.copies pred) (option_map new_copy given_here)) ≡ cond (is_brought h group.last pred || has_tablet pred rec.fresh) (option_map standing_in (copy_at (copies h) pred group.number)) None
  standing_then came old = by (is_brought h group.last pred) (has_tablet pred rec.fresh) (copy_of group.copies pred) refl old
    where
      no_copy : (o : Option Copied) → option_map standing_of o ≡ None → o ≡ None
      no_copy None e = refl
      no_copy (Some c) e = absurd (cc)

      gone : (o : Option Copy) → None ≡ option_map standing_in o → o ≡ None
      gone None e = refl
      gone (Some c) e = absurd (cc)

      by : (v w : Bool) (o : Option Copied) → has_tablet pred rec.fresh ≡ w → option_map standing_of o ≡ cond v (option_map standing_in (copy_at (copies h) pred group.number)) None → option_map standing_of (option_or o (option_map new_copy given_here)) ≡ cond (v || w) (option_map standing_in (copy_at (copies h) pred group.number)) None
      by true w (Some c) is e = e
      by true w None is e =
          let none = none_given h group.number pred rec.fresh came (gone (copy_at (copies h) pred group.number) e) in
          (λ i. option_map standing_of (option_map new_copy (none i))) ∙ e
      by false w (Some c) is e = absurd (cc)
      by false true None is e = given h group.number pred rec.fresh came is
      by false false None is e = λ i. option_map standing_of (option_map new_copy (not_given h group.number pred rec.fresh is i))

is_itself : (t : ℕ) → (t == t) ≡ true
is_itself t = grind (arith, common_steps)

pub next_keeps_in_step : NextKeepsInStep
next_keeps_in_step n h group rec l x s e =
    let k = known n h group.last rec l x e in
    let t = records_ascend n h l in
    let came = unmet_first h group.number group.last (records h) rec e s.unmet in
    let fresh = fresh_at group.number rec in
    let all = all_with_fresh (StandsBelow h group.last rec.ts) group.copies fresh
    (new_below h group.last rec k fresh e (all_passed (λ t. (at : ℕ) → at < rec.ts → definition_of (schema_at h at) t.pred ≡ None) (λ t. t.group == group.number) rec.fresh k.exact.fresh))
    (all_below h group.last rec group.copies e s.stands.each) in
    record {
      stands = record {
        applied = inr (found_any (λ r. nat_lt group.last r.ts) (λ r. r.ts == rec.ts) (records h) rec e (is_itself rec.ts));
        copies_are = λ pred.
            found_after rec (with_fresh group.copies fresh) pred
            ∙ ap (option_map standing_of) (found_fresh group.copies fresh pred s.ascend)
            ∙ standing_then h group rec pred came (s.stands.copies_are pred)
            ∙ (λ i. cond (sym (brought_next h group.last rec pred t.ascend e) i) (option_map standing_in (copy_at (copies h) pred group.number)) None);
        each = all_after (StandsBelow h group.last rec.ts) (CopyStands h rec.ts) rec (with_fresh group.copies fresh) (λ c b. copy_stands h group.last rec k c b.stands b.below_it) all;
      };
      ascend = after_ascend rec (with_fresh group.copies fresh) (fresh_ascend group.copies fresh s.ascend);
      drawn = all_after (λ c. c.mark < next h) (λ c. c.mark < next h) rec (with_fresh group.copies fresh) (λ c b. b) (all_with_fresh (λ c. c.mark < next h) group.copies fresh (zeros fresh) s.drawn);
      unmet = unmet_next h group.number group.last rec.ts (records h) k.next_one.above s.unmet;
    }
  where
    zeros : (ts : List Tablet) → AllByRecursion (λ t. (new_copy t).mark < next h) ts
    zeros [] = tt
    zeros (t ∷ ts) = (omega arith, zeros ts)
