-- Parts that are the gains and losses between the same graphs are one list.
use Rattle.std.proofs.Common.{◌≡◌, ◌∙◌, sym, ap, subst, refl, List, [], ◌∷◌, ◌++◌, Bool, true, false, cond, flat_map}
use Rattle.std.specs.Prelude.{filter}
use Rattle.std.specs.List.{AllByRecursion}
use Rattle.std.specs.declared.cmp.Ordering.{Ordering}
use Rattle.std.specs.declared.cmp.Ordering.TheVariants.{Less, Equal, Greater}
use Rattle.std.specs.Ordering.{is_eq}
use Rattle.std.proofs.lemmas.List.{append-nil}
use Rattle.dg_values.specs.Ascending.{Ascends}
use Rattle.dg_sets.proofs.Sets.{is_one, is_itself, back, forth, all_with}
use Rattle.dg_delta.specs.Ops.{AreOps}
use Rattle.dg_keys.specs.declared.key.Key.{Key}
use Rattle.dg_keys.specs.declared.record.Part.{Part}
use Rattle.dg_keys.specs.Keys.{key_cmp, part_cmp, ops_at}
use Rattle.dg_keys.specs.KeyOrder.{key_order}
use Rattle.dg_zero.specs.ExactLaws.{PartsAreOne}

-- ---- a part's operations are those at its key

none_at : (key : Key) (parts : List Part) → AllByRecursion (λ (p : Part). key_cmp key p.key ≡ Less) parts → ops_at parts key ≡ []
none_at key [] a = refl
none_at key (part ∷ parts) a = by (is_eq (key_cmp part.key key)) (ap is_eq (back key_cmp key_order key part.key a.0)) (none_at key parts a.1)
  where
    by : (v : Bool) → v ≡ false → ops_at parts key ≡ [] → flat_map (λ (p : Part). p.ops) (cond v (part ∷ filter (λ (p : Part). is_eq (key_cmp p.key key)) parts) (filter (λ (p : Part). is_eq (key_cmp p.key key)) parts)) ≡ []
    by true e rest = absurd (cc)
    by false e rest = rest

first_at : (part : Part) (parts : List Part) → AllByRecursion (λ (p : Part). key_cmp part.key p.key ≡ Less) parts → ops_at (part ∷ parts) part.key ≡ part.ops
first_at part parts a = by (is_eq (key_cmp part.key part.key)) (is_itself key_cmp key_order part.key) (none_at part.key parts a)
  where
    by : (v : Bool) → v ≡ true → ops_at parts part.key ≡ [] → flat_map (λ (p : Part). p.ops) (cond v (part ∷ filter (λ (p : Part). is_eq (key_cmp p.key part.key)) parts) (filter (λ (p : Part). is_eq (key_cmp p.key part.key)) parts)) ≡ part.ops
    by true e rest = (λ i. part.ops ++ rest i) ∙ append-nil part.ops
    by false e rest = absurd (cc)

other_at : (p : Part) (ps : List Part) (key : Key) → is_eq (key_cmp p.key key) ≡ false → ops_at (p ∷ ps) key ≡ ops_at ps key
other_at p ps key e = λ i. flat_map (λ (q : Part). q.ops) (cond (e i) (p ∷ filter (λ (q : Part). is_eq (key_cmp q.key key)) ps) (filter (λ (q : Part). is_eq (key_cmp q.key key)) ps))

-- ---- one list

above_all : (p q : Part) (qs : List Part) → key_cmp p.key q.key ≡ Less → AllByRecursion (λ (r : Part). key_cmp q.key r.key ≡ Less) qs → AllByRecursion (λ (r : Part). key_cmp p.key r.key ≡ Less) (q ∷ qs)
above_all p q qs e a = (e, all_with (λ (r : Part). key_cmp q.key r.key ≡ Less) (λ (r : Part). key_cmp p.key r.key ≡ Less) qs (λ r l. key_order.trans p.key q.key r.key e l) a)

-- a part that isn't among others has no operations
lone : (p : Part) (ps qs : List Part) → AreOps p.ops → AllByRecursion (λ (r : Part). key_cmp p.key r.key ≡ Less) ps → AllByRecursion (λ (r : Part). key_cmp p.key r.key ≡ Less) qs → ops_at (p ∷ ps) p.key ≡ ops_at qs p.key → ⊥
lone p ps qs o a b e = o.some (sym (first_at p ps a) ∙ (e ∙ none_at p.key qs b))

one_parts : (ps qs : List Part) → Ascends part_cmp ps → Ascends part_cmp qs → AllByRecursion (λ (p : Part). AreOps p.ops) ps → AllByRecursion (λ (p : Part). AreOps p.ops) qs → ((key : Key) → ops_at ps key ≡ ops_at qs key) → ps ≡ qs
one_parts [] [] a b c d e = refl
one_parts [] (q ∷ qs) a b c d e = absurd (lone q qs [] d.0 b.0 tt (sym (e q.key)))
one_parts (p ∷ ps) [] a b c d e = absurd (lone p ps [] c.0 a.0 tt (e p.key))
one_parts (p ∷ ps) (q ∷ qs) a b c d e = by (key_cmp p.key q.key) refl (λ f. one_parts ps qs a.1 b.1 c.1 d.1 f)
  where
    tails : p.key ≡ q.key → (key : Key) → ops_at ps key ≡ ops_at qs key
    tails same key = split (is_eq (key_cmp p.key key)) refl
      where
        split : (v : Bool) → is_eq (key_cmp p.key key) ≡ v → ops_at ps key ≡ ops_at qs key
        split true f =
            let own : p.key ≡ key = is_one key_cmp key_order p.key key f in
            let other : q.key ≡ key = sym same ∙ own in
            none_at key ps (subst (λ (k : Key). AllByRecursion (λ (r : Part). key_cmp k r.key ≡ Less) ps) own a.0) ∙ sym (none_at key qs (subst (λ (k : Key). AllByRecursion (λ (r : Part). key_cmp k r.key ≡ Less) qs) other b.0))
        split false f = sym (other_at p ps key f) ∙ (e key ∙ other_at q qs key (ap (λ (k : Key). is_eq (key_cmp k key)) (sym same) ∙ f))

    by : (v : Ordering) → key_cmp p.key q.key ≡ v → (((key : Key) → ops_at ps key ≡ ops_at qs key) → ps ≡ qs) → p ∷ ps ≡ q ∷ qs
    by Less f rest = absurd (lone p ps (q ∷ qs) c.0 a.0 (above_all p q qs f b.0) (e p.key))
    by Greater f rest = absurd (lone q qs (p ∷ ps) d.0 b.0 (above_all q p ps (forth key_cmp key_order p.key q.key f) a.0) (sym (e q.key)))
    by Equal f rest =
        let same : p.key ≡ q.key = key_order.same p.key q.key f in
        let ops : p.ops ≡ q.ops = sym (first_at p ps a.0) ∙ (e p.key ∙ (ap (ops_at (q ∷ qs)) same ∙ first_at q qs b.0)) in
        let tail : ps ≡ qs = rest (tails same) in
        λ i. record { key = same i; ops = ops i } ∷ tail i

pub parts_are_one : PartsAreOne
parts_are_one schema graph new_schema new_graph one other a b =
    one_parts one other a.parts_are.ascend b.parts_are.ascend a.parts_are.each b.parts_are.each (λ key. a.exact key ∙ sym (b.exact key))
