-- Parts of an ascending list of keys.
use Rattle.std.proofs.Common.{◌≡◌, Bool, true, false, cond, List, [], ◌∷◌, ◌++◌, flat_map, refl, ap, subst, ◌∙◌}
use Rattle.std.specs.Prelude.{◌||◌, filter}
use Rattle.std.specs.List.{AllByRecursion}
use Rattle.std.proofs.lemmas.List.{append-nil}
use Rattle.std.specs.declared.cmp.Ordering.TheVariants.{Less}
use Rattle.std.specs.Ordering.{is_eq}
use Rattle.dg_values.specs.Ascending.{Ascends, has}
use Rattle.dg_sets.proofs.Sets.{is_one, is_itself, back, not_above}
use Rattle.dg_delta.specs.declared.op.Op.{Op}
use Rattle.dg_delta.specs.Ops.{op_cmp, AreOps}
use Rattle.dg_keys.specs.declared.key.Key.{Key}
use Rattle.dg_keys.specs.declared.record.Part.{Part}
use Rattle.dg_keys.specs.Keys.{key_cmp, part_cmp, ops_at, AreParts}
use Rattle.dg_keys.specs.KeyOrder.{key_order}
use Rattle.dg_edges.specs.Deltas.{and_part, parts_at}

-- what holds of each key with operations holds of each part
pub all_parts : (P : Part → Type 0) (f : Key → List Op) (ks : List Key) → ((key : Key) (op : Op) (ops : List Op) → has key_cmp ks key ≡ true → f key ≡ op ∷ ops → P (record { key = key; ops = op ∷ ops })) → AllByRecursion P (parts_at f ks)
all_parts P f [] g = tt
all_parts P f (k ∷ ks) g = by (f k) refl (all_parts P f ks (λ key op ops h e. g key op ops (later (is_eq (key_cmp k key)) (has key_cmp ks key) h) e))
  where
    later : (b c : Bool) → c ≡ true → (b || c) ≡ true
    later true c e = refl
    later false c e = e

    first : (b c : Bool) → b ≡ true → (b || c) ≡ true
    first true c e = refl
    first false c e = absurd (cc)

    by : (os : List Op) → f k ≡ os → AllByRecursion P (parts_at f ks) → AllByRecursion P (and_part k os (parts_at f ks))
    by [] e rest = rest
    by (op ∷ ops) e rest = (g k op ops (first (is_eq (key_cmp k k)) (has key_cmp ks k) (is_itself key_cmp key_order k)) e, rest)

key_above : (k : Key) (f : Key → List Op) (ks : List Key) → AllByRecursion (λ l. key_cmp k l ≡ Less) ks → AllByRecursion (λ part. key_cmp k part.key ≡ Less) (parts_at f ks)
key_above k f [] a = tt
key_above k f (l ∷ ks) a = by (f l) (key_above k f ks a.1)
  where
    by : (os : List Op) → AllByRecursion (λ part. key_cmp k part.key ≡ Less) (parts_at f ks) → AllByRecursion (λ part. key_cmp k part.key ≡ Less) (and_part l os (parts_at f ks))
    by [] rest = rest
    by (op ∷ ops) rest = (a.0, rest)

parts_ascend : (f : Key → List Op) (ks : List Key) → Ascends key_cmp ks → Ascends part_cmp (parts_at f ks)
parts_ascend f [] a = tt
parts_ascend f (k ∷ ks) a = by (f k) (parts_ascend f ks a.1)
  where
    by : (os : List Op) → Ascends part_cmp (parts_at f ks) → Ascends part_cmp (and_part k os (parts_at f ks))
    by [] rest = rest
    by (op ∷ ops) rest = (key_above k f ks a.0, rest)

pub are_parts : (f : Key → List Op) (ks : List Key) → Ascends key_cmp ks → ((key : Key) → Ascends op_cmp (f key)) → AreParts (parts_at f ks)
are_parts f ks a o = record {
  ascend = parts_ascend f ks a;
  each = all_parts (λ part. AreOps part.ops) f ks (λ key op ops h e. record { some = λ n. none n; ascend = subst (λ (os : List Op). Ascends op_cmp os) e (o key) });
}
  where
    none : {op : Op} {ops : List Op} → op ∷ ops ≡ [] → ⊥
    none e = cc

-- the operations at a key
ops_at_part : (k key : Key) (os : List Op) (parts : List Part) → ops_at (and_part k os parts) key ≡ cond (is_eq (key_cmp k key)) os [] ++ ops_at parts key
ops_at_part k key [] parts = by (is_eq (key_cmp k key))
  where
    by : (v : Bool) → ops_at parts key ≡ cond v [] [] ++ ops_at parts key
    by true = refl
    by false = refl
ops_at_part k key (op ∷ ops) parts = by (is_eq (key_cmp k key))
  where
    by : (v : Bool) → flat_map (λ part. part.ops) (cond v ((record { key = k; ops = op ∷ ops }) ∷ filter (λ part. is_eq (key_cmp part.key key)) parts) (filter (λ part. is_eq (key_cmp part.key key)) parts)) ≡ cond v (op ∷ ops) [] ++ ops_at parts key
    by true = refl
    by false = refl

pub ops_at_parts : (f : Key → List Op) (ks : List Key) (key : Key) → Ascends key_cmp ks → ops_at (parts_at f ks) key ≡ cond (has key_cmp ks key) (f key) []
ops_at_parts f [] key a = refl
ops_at_parts f (k ∷ ks) key a = ops_at_part k key (f k) (parts_at f ks) ∙ by (is_eq (key_cmp k key)) refl (ops_at_parts f ks key a.1)
  where
    by : (v : Bool) → is_eq (key_cmp k key) ≡ v → ops_at (parts_at f ks) key ≡ cond (has key_cmp ks key) (f key) [] → cond v (f k) [] ++ ops_at (parts_at f ks) key ≡ cond (v || has key_cmp ks key) (f key) []
    by false e rest = rest
    by true e rest =
        let same = is_one key_cmp key_order k key e in
        let out : has key_cmp ks key ≡ false = subst (λ (l : Key). has key_cmp ks l ≡ false) same (not_above key_cmp key_order k ks a.0) in
        let none : ops_at (parts_at f ks) key ≡ [] = rest ∙ ap (λ (b : Bool). cond b (f key) []) out in
        (λ i. f (same i) ++ none i) ∙ append-nil (f key)

-- ---- lists side by side

pub all_joined : {X : Type 0} (P : X → Type 0) (xs ys : List X) → AllByRecursion P xs → AllByRecursion P ys → AllByRecursion P (xs ++ ys)
all_joined P [] ys a b = b
all_joined P (x ∷ xs) ys a b = (a.0, all_joined P xs ys a.1 b)

-- ---- a part's operations are those at its key

none_at : (key : Key) (parts : List Part) → AllByRecursion (λ part. key_cmp key part.key ≡ Less) parts → ops_at parts key ≡ []
none_at key [] a = refl
none_at key (part ∷ parts) a = by (is_eq (key_cmp part.key key)) (ap is_eq (back key_cmp key_order key part.key a.0)) (none_at key parts a.1)
  where
    by : (v : Bool) → v ≡ false → ops_at parts key ≡ [] → flat_map (λ p. p.ops) (cond v (part ∷ filter (λ p. is_eq (key_cmp p.key key)) parts) (filter (λ p. is_eq (key_cmp p.key key)) parts)) ≡ []
    by true e rest = absurd (cc)
    by false e rest = rest

first_at : (part : Part) (parts : List Part) → AllByRecursion (λ p. key_cmp part.key p.key ≡ Less) parts → ops_at (part ∷ parts) part.key ≡ part.ops
first_at part parts a = by (is_eq (key_cmp part.key part.key)) (is_itself key_cmp key_order part.key) (none_at part.key parts a)
  where
    by : (v : Bool) → v ≡ true → ops_at parts part.key ≡ [] → flat_map (λ p. p.ops) (cond v (part ∷ filter (λ p. is_eq (key_cmp p.key part.key)) parts) (filter (λ p. is_eq (key_cmp p.key part.key)) parts)) ≡ part.ops
    by true e rest = (λ i. part.ops ++ rest i) ∙ append-nil part.ops
    by false e rest = absurd (cc)

later_at : (part : Part) (parts more : List Part) → AllByRecursion (λ p. key_cmp part.key p.key ≡ Less) more → AllByRecursion (λ p. ops_at parts p.key ≡ p.ops) more → AllByRecursion (λ p. ops_at (part ∷ parts) p.key ≡ p.ops) more
later_at part parts [] a b = tt
later_at part parts (p ∷ more) a b = (by (is_eq (key_cmp part.key p.key)) (ap is_eq a.0) b.0, later_at part parts more a.1 b.1)
  where
    by : (v : Bool) → v ≡ false → ops_at parts p.key ≡ p.ops → flat_map (λ q. q.ops) (cond v (part ∷ filter (λ q. is_eq (key_cmp q.key p.key)) parts) (filter (λ q. is_eq (key_cmp q.key p.key)) parts)) ≡ p.ops
    by true e rest = absurd (cc)
    by false e rest = rest

pub own_ops : (parts : List Part) → Ascends part_cmp parts → AllByRecursion (λ p. ops_at parts p.key ≡ p.ops) parts
own_ops [] a = tt
own_ops (part ∷ parts) a = (first_at part parts a.0, later_at part parts parts a.0 (own_ops parts a.1))
