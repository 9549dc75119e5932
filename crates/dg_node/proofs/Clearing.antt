-- What a verdict without a refusal says of the keys.
use Rattle.std.proofs.Common.{◌≡◌, ℕ, ◌+◌, List, [], ◌∷◌, ◌++◌, Option, Some, None, length, refl, ap, subst, sym, ◌∙◌, append_assoc, arith}
use Rattle.std.specs.Prelude.{slice_get, option_map}
use Rattle.std.specs.List.{AllByRecursion}
use Rattle.dg_keys.specs.declared.conflict.ConflictKey.{ConflictKey}
use Rattle.dg_keys.specs.Conflicts.{conflict_cmp, conflict_text}
use Rattle.dg_oracle.specs.Commits as oracle
use Rattle.dg_oracle.specs.Verdicts.{HasNoClash, last_clash, conflict_or, verdict_from, verdict}
use Rattle.dg_oracle.proofs.Clashes.{none_is}
use Rattle.dg_wire.specs.declared.refusal.Refusal.TheVariants as refusals
use Rattle.dg_node.specs.Transactions.{refusal_by}

get_at : {X : Type 0} (front back : List X) (x : X) → slice_get (front ++ x ∷ back) (length front) ≡ Some x
get_at [] back x = refl
get_at (y ∷ front) back x = get_at front back x

length_one_more : {X : Type 0} (front : List X) (x : X) → length (front ++ x ∷ []) ≡ length front + 1
length_one_more [] x = refl
length_one_more (y ∷ front) x = let e = length_one_more front x in omega (arith, e)

module _ (commits : List (oracle.Commit ConflictKey)) (start : ℕ) where
  -- a key that clashes is refused
  clash_refused : (front keys : List ConflictKey) (key : ConflictKey) (ts : ℕ) → refusal_by (front ++ key ∷ keys) (conflict_or (length front) (Some ts) (verdict_from conflict_cmp commits start (length front + 1) keys)) ≡ None → ⊥
  clash_refused front keys key ts e =
      let there : option_map (λ k. refusals.Conflict ts (conflict_text k)) (slice_get (front ++ key ∷ keys) (length front)) ≡ Some (refusals.Conflict ts (conflict_text key))
      = ap (λ (o : Option ConflictKey). option_map (λ k. refusals.Conflict ts (conflict_text k)) o) (get_at front keys key) in
      let wrong : None ≡ Some (refusals.Conflict ts (conflict_text key)) = sym e ∙ there in
      cc

  clear_from : (front keys : List ConflictKey) → refusal_by (front ++ keys) (verdict_from conflict_cmp commits start (length front) keys) ≡ None → AllByRecursion (HasNoClash conflict_cmp commits start) keys
  clear_from front [] e = tt
  clear_from front (key ∷ keys) e = by (last_clash conflict_cmp commits start key) refl e (clear_from (front ++ key ∷ []) keys)
    where
      by : (o : Option ℕ) → last_clash conflict_cmp commits start key ≡ o → refusal_by (front ++ key ∷ keys) (conflict_or (length front) o (verdict_from conflict_cmp commits start (length front + 1) keys)) ≡ None → (refusal_by ((front ++ key ∷ []) ++ keys) (verdict_from conflict_cmp commits start (length (front ++ key ∷ [])) keys) ≡ None → AllByRecursion (HasNoClash conflict_cmp commits start) keys) → HasNoClash conflict_cmp commits start key × AllByRecursion (HasNoClash conflict_cmp commits start) keys
      by (Some ts) is h more = absurd (clash_refused front keys key ts h)
      by None is h more =
          let joined : front ++ key ∷ keys ≡ (front ++ key ∷ []) ++ keys = sym (append_assoc front (key ∷ []) keys) in
          let place : length front + 1 ≡ length (front ++ key ∷ []) = sym (length_one_more front key) in
          let moved : refusal_by ((front ++ key ∷ []) ++ keys) (verdict_from conflict_cmp commits start (length front + 1) keys) ≡ None
          = subst (λ (ks : List ConflictKey). refusal_by ks (verdict_from conflict_cmp commits start (length front + 1) keys) ≡ None) joined h in (
            none_is conflict_cmp start key commits is,
            more (subst (λ (n : ℕ). refusal_by ((front ++ key ∷ []) ++ keys) (verdict_from conflict_cmp commits start n keys) ≡ None) place moved),
          )

  -- where nothing is refused, no key clashes
  pub all_clear : (keys : List ConflictKey) → refusal_by keys (verdict conflict_cmp commits start keys) ≡ None → AllByRecursion (HasNoClash conflict_cmp commits start) keys
  all_clear keys e = clear_from [] keys e
