-- What a group keeps when it applies a record.
use Rattle.std.proofs.Common.{◌<◌, ◌≤◌, arith, ℕ, List, [], ◌∷◌, Bool, true, false, cond}
use Rattle.std.specs.List.{AllByRecursion}
use Rattle.dg_sets.proofs.Sets.{all_with}
use Rattle.dg_keys.specs.declared.record.Record.{Record}
use Rattle.dg_keys.specs.declared.record.Tablet.{Tablet}
use Rattle.dg_delta.specs.Layers.{Changes}
use Rattle.dg_list.specs.Lists.{newest_ts, newest_of}
use Rattle.dg_store.specs.Stores.{held_parts, after_parts}
use Rattle.dg_group.specs.declared.copied.Copied.{Copied}
use Rattle.dg_group.specs.Groups.{Group, new_copy, fresh_at, copy_after, with_fresh, group_after, is_open_at, IsLaid, IsKept, IsWhole, CanApply}
use Rattle.dg_group.proofs.Lists.{laid_after, raised_to, own_after, held_own}
use Rattle.dg_group.proofs.Copies.{all_with_fresh, fresh_ascend, after_ascend, all_after}

-- a copy is kept, and its mark is below a record
record IsBelow (last ts : ℕ) (c : Copied) : Type 0 where
  kept : IsKept last c
  above : c.mark < ts

both : (last ts : ℕ) (cs : List Copied) → AllByRecursion (IsKept last) cs → AllByRecursion (λ c. c.mark < ts) cs → AllByRecursion (IsBelow last ts) cs
both last ts [] a b = tt
both last ts (c ∷ cs) a b = (record { kept = a.0; above = b.0 }, both last ts cs a.1 b.1)

new_ones : (last ts : ℕ) (fresh : List Tablet) → last < ts → AllByRecursion (λ t. IsBelow last ts (new_copy t)) fresh
new_ones last ts [] lt = tt
new_ones last ts (t ∷ fresh) lt = (record { kept = record { own = tt; laid = tt }; above = omega (arith, lt) }, new_ones last ts fresh lt)

all_of : (group : Group) (rec : Record) → IsWhole group → CanApply group rec → AllByRecursion (IsBelow group.last rec.ts) (with_fresh group.copies (fresh_at group.number rec))
all_of group rec w a = all_with_fresh (IsBelow group.last rec.ts) group.copies (fresh_at group.number rec) (new_ones group.last rec.ts (fresh_at group.number rec) a.newer) (both group.last rec.ts group.copies w.each a.above)

-- each list is older than the record
newest_below : (mark last ts base_ts : ℕ) (layers : List Changes) → mark < ts → last < ts → base_ts ≤ mark → AllByRecursion (λ (l : Changes). (mark < l.ts) × (l.ts ≤ last)) layers → newest_of base_ts layers < ts
newest_below mark last ts base_ts [] lt m le a = omega (arith, lt, le)
newest_below mark last ts base_ts (l ∷ layers) lt m le a = omega (arith, m, a.0.1)

pub older : (group : Group) (rec : Record) → IsWhole group → CanApply group rec → AllByRecursion (λ c. AllByRecursion (λ e. newest_ts e.1 < rec.ts) c.store) (with_fresh group.copies (fresh_at group.number rec))
older group rec w a =
    all_with (IsBelow group.last rec.ts) (λ c. AllByRecursion (λ e. newest_ts e.1 < rec.ts) c.store) (with_fresh group.copies (fresh_at group.number rec))
    (λ c b. all_with (λ e. IsLaid c.mark group.last e.1) (λ e. newest_ts e.1 < rec.ts) c.store (λ e l. newest_below c.mark group.last rec.ts e.1.base_ts e.1.layers b.above a.newer l.base l.layers) b.kept.laid)
    (all_of group rec w a)

-- a copy is kept
kept_after : (last : ℕ) (rec : Record) (c : Copied) → last < rec.ts → IsBelow last rec.ts c → IsKept rec.ts (copy_after rec c)
kept_after last rec c lt b = by (is_open_at c.until rec.ts)
  where
    by : (v : Bool) → IsKept rec.ts (record { pred = c.pred; mark = c.mark; until = c.until; store = cond v (after_parts rec.ts c.store (held_parts (c.pred ∷ []) rec.parts)) c.store })
    by true = record {
      own = own_after c.pred rec.ts c.store (held_parts (c.pred ∷ []) rec.parts) (held_own c.pred rec.parts) b.kept.own;
      laid = laid_after c.mark last rec.ts c.store (held_parts (c.pred ∷ []) rec.parts) b.above (omega (arith, lt)) b.kept.laid;
    }
    by false = record { own = b.kept.own; laid = raised_to c.mark last rec.ts c.store (omega (arith, lt)) b.kept.laid }

-- and so is the group
pub whole_after : (group : Group) (rec : Record) → IsWhole group → CanApply group rec → IsWhole (group_after group rec)
whole_after group rec w a = record {
  ascend = after_ascend rec (with_fresh group.copies (fresh_at group.number rec)) (fresh_ascend group.copies (fresh_at group.number rec) w.ascend);
  each = all_after (IsBelow group.last rec.ts) (IsKept rec.ts) rec (with_fresh group.copies (fresh_at group.number rec)) (λ c b. kept_after group.last rec c a.newer b) (all_of group rec w a);
}
