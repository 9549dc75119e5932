-- Two lists of marks that ascend become one.
use Rattle.std.proofs.Common.{◌≡◌, ℕ, suc, ◌+◌, ◌-◌, Bool, true, false, cond, List, [], ◌∷◌, ◌++◌, length, map, reverse, refl, ap, subst, sym, ◌∙◌, inl, inr, append_assoc, length-append, arith}
use Rattle.std.specs.Prelude.{◌==◌, ◌⊎◌, filter, Option, Some, None}
use Rattle.std.specs.List.{AllByRecursion, slice_get}
use Rattle.std.specs.Option.{option_to_list}
use Rattle.std.specs.List.Sorted.{IsSorted}
use Rattle.std.specs.declared.cmp.Ordering.{Ordering}
use Rattle.std.specs.declared.cmp.Ordering.TheVariants.{Less, Equal, Greater}
use Rattle.std.specs.Cmp.{IsTotalOrder}
use Rattle.std.specs.Ordering.{is_le, is_gt, nat_cmp, ordering_reverse, ordering_then}
use Rattle.std.proofs.lemmas.Cmp.{nat_cmp_total, tied_itself, upto}
use Rattle.std.proofs.lemmas.List.{reverse-append}
use Rattle.dg_oracle.specs.declared.mark.Mark.{Mark}
use Rattle.dg_oracle.specs.Histories.{mark_cmp, marked_at, IsUpTo, Ascending, keys_at, IsApart, last_of, is_after, TakesGreater}
use Rattle.dg_oracle.proofs.Clashes.{first_least, sorted_tail}
use Rattle.dg_oracle.proofs.Marks.{keys_append, front_empty}
use Rattle.dg_oracle.proofs.Oracles.{all_filter}
use Rattle.dg_oracle.proofs.Searches.{marks_total}

-- the last is the one at the last place
pub last_at : {X : Type 0} (xs : List X) → last_of xs ≡ slice_get xs (length xs - 1)
last_at [] = refl
last_at (x ∷ []) = refl
last_at (x ∷ y ∷ ys) = last_at (y ∷ ys) ∙ (let e : suc (length (y ∷ ys) - 1) ≡ length (x ∷ y ∷ ys) - 1 = omega arith in ap (λ n. slice_get (x ∷ y ∷ ys) n) e)

pub last_push : {X : Type 0} (xs : List X) (x : X) → last_of (xs ++ x ∷ []) ≡ Some x
last_push [] x = refl
last_push (y ∷ []) x = refl
last_push (y ∷ z ∷ zs) x = last_push (z ∷ zs) x

pub empty_list : {X : Type 0} (xs : List X) → length xs ≡ 0 → xs ≡ []
empty_list [] e = refl
empty_list (x ∷ xs) e = absurd (omega arith)

no_last : {X : Type 0} (xs : List X) → last_of xs ≡ None → xs ≡ []
no_last [] e = refl
no_last (x ∷ []) e = absurd (cc)
no_last (x ∷ y ∷ ys) e = absurd (let f : y ∷ ys ≡ [] = no_last (y ∷ ys) e in cc)

pub all_front : {X : Type 0} (P : X → Type 0) (xs ys : List X) → AllByRecursion P (xs ++ ys) → AllByRecursion P xs
all_front P [] ys a = tt
all_front P (x ∷ xs) ys a = (a.0, all_front P xs ys a.1)

pub all_last : {X : Type 0} (P : X → Type 0) (xs : List X) (x : X) → AllByRecursion P (xs ++ x ∷ []) → P x
all_last P [] x a = a.0
all_last P (y ∷ xs) x a = all_last P xs x a.1

pub all_both : {X : Type 0} (P Q R : X → Type 0) → ((x : X) → P x → Q x → R x) → (xs : List X) → AllByRecursion P xs → AllByRecursion Q xs → AllByRecursion R xs
all_both P Q R f [] a b = tt
all_both P Q R f (x ∷ xs) a b = (f x a.0 b.0, all_both P Q R f xs a.1 b.1)

module _ {K : Type 0} (cmp : K → K → Ordering) where
  pub ascends_filter : (p : Mark K → Bool) (ms : List (Mark K)) → Ascending cmp ms → Ascending cmp (filter p ms)
  ascends_filter p [] a = tt
  ascends_filter p (m ∷ ms) a =
      elim (p m) as (λ b. Ascending cmp (cond b (m ∷ filter p ms) (filter p ms))) [ true ↦ (all_filter (IsUpTo cmp m) p ms a.0, ascends_filter p ms a.1) | false ↦ ascends_filter p ms a.1 ]

  front_ascends : (ms : List (Mark K)) (m : Mark K) → Ascending cmp (ms ++ m ∷ []) → Ascending cmp ms
  front_ascends [] m a = tt
  front_ascends (n ∷ ms) m a = (all_front (IsUpTo cmp n) ms (m ∷ []) a.0, front_ascends ms m a.1)

  front_up_to : (ms : List (Mark K)) (m : Mark K) → Ascending cmp (ms ++ m ∷ []) → AllByRecursion (λ n. IsUpTo cmp n m) ms
  front_up_to [] m a = tt
  front_up_to (n ∷ ms) m a = (all_last (IsUpTo cmp n) ms m a.0, front_up_to ms m a.1)

  -- the marks of one commit
  pub commit_ascends : IsTotalOrder cmp → (ts : ℕ) (keys : List K) → IsSorted cmp keys → Ascending cmp (map (marked_at ts) keys)
  commit_ascends total ts [] s = tt
  commit_ascends total ts (k ∷ ks) s = (each ks (first_least cmp total k ks s).1, commit_ascends total ts ks (sorted_tail cmp k ks s))
    where
      up : (o : Ordering) → is_le o ≡ true → is_gt (ordering_then o (nat_cmp ts ts)) ≡ false
      up Less e = refl
      up Equal e = ap is_gt (tied_itself nat_cmp_total ts)
      up Greater e = absurd (cc)

      each : (js : List K) → AllByRecursion (λ j. is_le (cmp k j) ≡ true) js → AllByRecursion (IsUpTo cmp (marked_at ts k)) (map (marked_at ts) js)
      each [] a = tt
      each (j ∷ js) a = (up (cmp k j) a.0, each js a.1)

module _ {K : Type 0} (cmp : K → K → Ordering) (total : IsTotalOrder cmp) where
  -- where the last is not above it, none is
  all_up_to : (ms : List (Mark K)) (m : Mark K) → Ascending cmp ms → ((n : Mark K) → last_of ms ≡ Some n → IsUpTo cmp n m) → AllByRecursion (λ n. IsUpTo cmp n m) ms
  all_up_to [] m a f = tt
  all_up_to (x ∷ []) m a f = (f x refl, tt)
  all_up_to (x ∷ y ∷ ys) m a f =
      let rest = all_up_to (y ∷ ys) m a.1 f in
      (upto (marks_total cmp total) x y m a.0.0 rest.0, rest)

  -- the mark that is taken
  pub takes_first : (xs ys rest : List (Mark K)) (r : Option (Mark K)) → xs ≡ rest ++ option_to_list r → (r ≡ None → xs ≡ []) → is_after cmp (last_of xs) (last_of ys) ≡ true → TakesGreater cmp xs ys r rest ys
  takes_first xs ys rest None e none after =
      absurd (let f : is_after cmp (last_of {X = Mark K} []) (last_of ys) ≡ true = subst (λ (zs : List (Mark K)). is_after cmp (last_of zs) (last_of ys) ≡ true) (none refl) after in cc)
  takes_first xs ys rest (Some m) e none after =
      let l : last_of xs ≡ Some m = ap last_of e ∙ last_push rest m in
      let at : is_after cmp (Some m) (last_of ys) ≡ true = subst (λ o. is_after cmp o (last_of ys) ≡ true) l after in
      inl record { taken = e; other_stays = refl; greatest = (λ n f. turned m n (subst (λ o. is_after cmp (Some m) o ≡ true) f at)) }
    where
      not_back : (o p : Ordering) → p ≡ ordering_reverse o → is_gt o ≡ true → is_gt p ≡ false
      not_back Less p e g = absurd (cc)
      not_back Equal p e g = absurd (cc)
      not_back Greater p e g = ap is_gt e

      turned : (m n : Mark K) → is_gt (mark_cmp cmp m n) ≡ true → IsUpTo cmp n m
      turned m n g = not_back (mark_cmp cmp m n) (mark_cmp cmp n m) ((marks_total cmp total).antisymm n m) g

  pub takes_second : (xs ys rest : List (Mark K)) (r : Option (Mark K)) → ys ≡ rest ++ option_to_list r → (r ≡ None → ys ≡ []) → is_after cmp (last_of xs) (last_of ys) ≡ false → TakesGreater cmp xs ys r xs rest
  takes_second xs ys rest None e none after =
      let f : is_after cmp (last_of xs) None ≡ false = subst (λ (zs : List (Mark K)). is_after cmp (last_of xs) (last_of zs) ≡ false) (none refl) after in
      (no_last xs (no_mark (last_of xs) f), none refl)
    where
      no_mark : (o : Option (Mark K)) → is_after cmp o None ≡ false → o ≡ None
      no_mark None f = refl
      no_mark (Some x) f = absurd (cc)
  takes_second xs ys rest (Some m) e none after =
      let l : last_of ys ≡ Some m = ap last_of e ∙ last_push rest m in
      let at : is_after cmp (last_of xs) (Some m) ≡ false = subst (λ o. is_after cmp (last_of xs) o ≡ false) l after in
      inr record { taken = e; other_stays = refl; greatest = (λ n f. subst (λ o. is_after cmp o (Some m) ≡ false) f at) }

  -- what holds while marks are taken from the ends of two lists: what is left of both, and what was taken, in order
  pub record IsMerging (older newer xs ys zs : List (Mark K)) : Type 0 where
    pub apart : IsApart xs ys
    pub keys : (ts : ℕ) → keys_at ts xs ++ (keys_at ts ys ++ keys_at ts zs) ≡ keys_at ts older ++ keys_at ts newer
    pub xs_ascend : Ascending cmp xs
    pub ys_ascend : Ascending cmp ys
    pub zs_ascend : Ascending cmp zs
    pub xs_below : AllByRecursion (λ m. AllByRecursion (IsUpTo cmp m) zs) xs
    pub ys_below : AllByRecursion (λ m. AllByRecursion (IsUpTo cmp m) zs) ys

  all_below_none : (xs : List (Mark K)) → AllByRecursion (λ m. AllByRecursion (IsUpTo cmp m) []) xs
  all_below_none [] = tt
  all_below_none (x ∷ xs) = (tt, all_below_none xs)

  pub merge_begins : (xs ys : List (Mark K)) → IsApart xs ys → Ascending cmp xs → Ascending cmp ys → IsMerging xs ys xs ys []
  merge_begins xs ys apart a b = record {
    apart = apart;
    keys = (λ ts. ap (λ ks. keys_at ts xs ++ ks) (append_nil (keys_at ts ys)));
    xs_ascend = a;
    ys_ascend = b;
    zs_ascend = tt;
    xs_below = all_below_none xs;
    ys_below = all_below_none ys;
  }
    where
      append_nil : (ks : List K) → ks ++ [] ≡ ks
      append_nil [] = refl
      append_nil (k ∷ ks) = ap (λ js. k ∷ js) (append_nil ks)

  -- one list of the two loses its last mark
  lost : (xs ys rest : List (Mark K)) (m : Mark K) → IsApart xs ys → xs ≡ rest ++ m ∷ [] → IsApart rest ys
  lost xs ys rest m apart e ts = elim (apart ts) as (λ _. (keys_at ts rest ≡ []) ⊎ (keys_at ts ys ≡ [])) [ inl f ↦ inl (front_empty (keys_at ts rest) (keys_at ts (m ∷ [])) (sym (keys_append ts rest (m ∷ [])) ∙ (sym (ap (λ (ms : List (Mark K)). keys_at ts ms) e) ∙ f))) | inr f ↦ inr f ]

  below_more : (xs zs : List (Mark K)) (m : Mark K) → AllByRecursion (λ n. IsUpTo cmp n m) xs → AllByRecursion (λ n. AllByRecursion (IsUpTo cmp n) zs) xs → AllByRecursion (λ n. AllByRecursion (IsUpTo cmp n) (m ∷ zs)) xs
  below_more xs zs m a b = all_both (λ n. IsUpTo cmp n m) (λ n. AllByRecursion (IsUpTo cmp n) zs) (λ n. AllByRecursion (IsUpTo cmp n) (m ∷ zs)) (λ n p q. (p, q)) xs a b

  -- the keys at a timestamp, as a mark of the first or the second list goes to those that were taken
  keys_moved_first : (ts : ℕ) (xs ys rest zs : List (Mark K)) (m : Mark K) → IsApart xs ys → xs ≡ rest ++ m ∷ [] → keys_at ts rest ++ (keys_at ts ys ++ keys_at ts (m ∷ zs)) ≡ keys_at ts xs ++ (keys_at ts ys ++ keys_at ts zs)
  keys_moved_first ts xs ys rest zs m apart e = by (m.ts == ts) (apart ts) (ap (λ (ms : List (Mark K)). keys_at ts ms) e ∙ keys_append ts rest (m ∷ []))
    where
      by : (b : Bool) → (keys_at ts xs ≡ []) ⊎ (keys_at ts ys ≡ []) → keys_at ts xs ≡ keys_at ts rest ++ cond b (m.key ∷ []) [] → keys_at ts rest ++ (keys_at ts ys ++ cond b (m.key ∷ keys_at ts zs) (keys_at ts zs)) ≡ keys_at ts xs ++ (keys_at ts ys ++ keys_at ts zs)
      by true (inl f) g = absurd (not_empty (keys_at ts rest) m.key (sym g ∙ f))
        where
          not_empty : (ks : List K) (k : K) → ks ++ k ∷ [] ≡ [] → ⊥
          not_empty [] k e = cc
          not_empty (j ∷ ks) k e = cc
      by true (inr f) g = rw (f, g) (sym (append_assoc (keys_at ts rest) (m.key ∷ []) (keys_at ts zs)))
      by false h g = ap (λ ks. ks ++ (keys_at ts ys ++ keys_at ts zs)) (sym (g ∙ append_nil (keys_at ts rest)))
        where
          append_nil : (ks : List K) → ks ++ [] ≡ ks
          append_nil [] = refl
          append_nil (k ∷ ks) = ap (λ js. k ∷ js) (append_nil ks)

  keys_moved_second : (ts : ℕ) (xs ys rest zs : List (Mark K)) (m : Mark K) → ys ≡ rest ++ m ∷ [] → keys_at ts xs ++ (keys_at ts rest ++ keys_at ts (m ∷ zs)) ≡ keys_at ts xs ++ (keys_at ts ys ++ keys_at ts zs)
  keys_moved_second ts xs ys rest zs m e =
      ap (λ ks. keys_at ts xs ++ ks) (sym (keys_append ts rest (m ∷ zs)) ∙ (ap (λ (ms : List (Mark K)). keys_at ts ms) (sym (append_assoc rest (m ∷ []) zs)) ∙ (ap (λ (ms : List (Mark K)). keys_at ts (ms ++ zs)) (sym e) ∙ keys_append ts ys zs)))

  pub merge_goes_on : (older newer xs ys zs : List (Mark K)) (m : Mark K) (xs' ys' : List (Mark K)) → IsMerging older newer xs ys zs → TakesGreater cmp xs ys (Some m) xs' ys' → IsMerging older newer xs' ys' (m ∷ zs)
  merge_goes_on older newer xs ys zs m xs' ys' i (inl t) =
      let a : Ascending cmp (xs' ++ m ∷ []) = subst (λ (ms : List (Mark K)). Ascending cmp ms) t.taken i.xs_ascend in
      let below : AllByRecursion (λ n. AllByRecursion (IsUpTo cmp n) zs) (xs' ++ m ∷ []) = subst (λ (ms : List (Mark K)). AllByRecursion (λ n. AllByRecursion (IsUpTo cmp n) zs) ms) t.taken i.xs_below in
      subst (λ (ms : List (Mark K)). IsMerging older newer xs' ms (m ∷ zs)) (sym t.other_stays) record {
        apart = lost xs ys xs' m i.apart t.taken;
        keys = (λ ts. keys_moved_first ts xs ys xs' zs m i.apart t.taken ∙ i.keys ts);
        xs_ascend = front_ascends cmp xs' m a;
        ys_ascend = i.ys_ascend;
        zs_ascend = (all_last (λ n. AllByRecursion (IsUpTo cmp n) zs) xs' m below, i.zs_ascend);
        xs_below = below_more xs' zs m (front_up_to cmp xs' m a) (all_front (λ n. AllByRecursion (IsUpTo cmp n) zs) xs' (m ∷ []) below);
        ys_below = below_more ys zs m (all_up_to ys m i.ys_ascend t.greatest) i.ys_below;
      }
  merge_goes_on older newer xs ys zs m xs' ys' i (inr t) =
      let a : Ascending cmp (ys' ++ m ∷ []) = subst (λ (ms : List (Mark K)). Ascending cmp ms) t.taken i.ys_ascend in
      let below : AllByRecursion (λ n. AllByRecursion (IsUpTo cmp n) zs) (ys' ++ m ∷ []) = subst (λ (ms : List (Mark K)). AllByRecursion (λ n. AllByRecursion (IsUpTo cmp n) zs) ms) t.taken i.ys_below in
      subst (λ (ms : List (Mark K)). IsMerging older newer ms ys' (m ∷ zs)) (sym t.other_stays) record {
        apart = (λ ts. turn ts (lost ys xs ys' m (λ ts. turn_back ts (i.apart ts)) t.taken ts));
        keys = (λ ts. keys_moved_second ts xs ys ys' zs m t.taken ∙ i.keys ts);
        xs_ascend = i.xs_ascend;
        ys_ascend = front_ascends cmp ys' m a;
        zs_ascend = (all_last (λ n. AllByRecursion (IsUpTo cmp n) zs) ys' m below, i.zs_ascend);
        xs_below = below_more xs zs m (all_up_to xs m i.xs_ascend t.greatest) i.xs_below;
        ys_below = below_more ys' zs m (front_up_to cmp ys' m a) (all_front (λ n. AllByRecursion (IsUpTo cmp n) zs) ys' (m ∷ []) below);
      }
    where
      turn : (ts : ℕ) → (keys_at ts ys' ≡ []) ⊎ (keys_at ts xs ≡ []) → (keys_at ts xs ≡ []) ⊎ (keys_at ts ys' ≡ [])
      turn ts (inl e) = inr e
      turn ts (inr e) = inl e

      turn_back : (ts : ℕ) → (keys_at ts xs ≡ []) ⊎ (keys_at ts ys ≡ []) → (keys_at ts ys ≡ []) ⊎ (keys_at ts xs ≡ [])
      turn_back ts (inl e) = inr e
      turn_back ts (inr e) = inl e

  pub merge_ends : (older newer xs ys zs xs' ys' : List (Mark K)) → IsMerging older newer xs ys zs → TakesGreater cmp xs ys None xs' ys' → (ts : ℕ) → keys_at ts zs ≡ keys_at ts older ++ keys_at ts newer
  merge_ends older newer xs ys zs xs' ys' i t ts = subst (λ (ms : List (Mark K)). keys_at ts ms ++ keys_at ts zs ≡ keys_at ts older ++ keys_at ts newer) t.1 (subst (λ (ms : List (Mark K)). keys_at ts ms ++ (keys_at ts ys ++ keys_at ts zs) ≡ keys_at ts older ++ keys_at ts newer) t.0 (i.keys ts))

  -- one mark fewer is left
  pub one_fewer : (xs ys : List (Mark K)) (m : Mark K) (xs' ys' : List (Mark K)) → TakesGreater cmp xs ys (Some m) xs' ys' → length xs' + length ys' + 1 ≡ length xs + length ys
  one_fewer xs ys m xs' ys' (inl t) = omega (arith, ap length t.taken, ap length t.other_stays, length-append xs' (m ∷ []))
  one_fewer xs ys m xs' ys' (inr t) = omega (arith, ap length t.taken, ap length t.other_stays, length-append ys' (m ∷ []))

  -- the next one in reverse
  pub reverse_push : (xs : List (Mark K)) (x : Mark K) → reverse (xs ++ x ∷ []) ≡ x ∷ reverse xs
  reverse_push xs x = reverse-append xs (x ∷ [])
