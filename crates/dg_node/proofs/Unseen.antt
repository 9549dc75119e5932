-- Where a node had a value at one timestamp and none has it at a later one, a commit between took it away.
use Rattle.std.proofs.Common.{◌≡◌, ◌≢◌, ℕ, zero, suc, ◌+◌, ◌-◌, ◌≤◌, inl, inr, Bool, true, false, cond, List, [], ◌∷◌, ◌++◌, refl, ap, subst, sym, ◌∙◌, arith}
use Rattle.std.specs.Prelude.{◌⊎◌, ◌&&◌, nat_lt, nat_le, fold}
use Rattle.std.specs.List.{AllByRecursion}
use Rattle.std.proofs.lemmas.Grind.{common_steps}
use Rattle.dg_values.specs.declared.value.Value.{Value}
use Rattle.dg_values.specs.declared.value.Posting.TheVariants.{Val}
use Rattle.dg_graph.specs.declared.change.Triple.{Triple}
use Rattle.dg_graph.specs.Graphs.{after_changes}
use Rattle.dg_graph.specs.Lookups.{subjects_of}
use Rattle.dg_node.specs.Graphs.{Commit, after_commit, committed_at}
use Rattle.dg_node.specs.Machine.{Machine}
use Rattle.dg_node.specs.Schemas.{Alter, schema_at}
use Rattle.dg_node.specs.Touching.{nodes_at, TookAway, NoneUnseen}
use Rattle.dg_node.proofs.RivalSteps.{later_began}

-- ---- a commit at a timestamp, or the same graph before and at it

-- a commit is above a timestamp, and at the next at most
abbrev comes_next : ℕ → Commit → Bool
comes_next before c = nat_lt before c.ts && nat_le c.ts (before + 1)

record IsNext (cs : List Commit) (before : ℕ) : Type 0 where
  front : List Commit
  commit : Commit
  back : List Commit
  stands : cs ≡ front ++ commit ∷ back
  ts_is : commit.ts ≡ before + 1

next_or : (before : ℕ) (cs : List Commit) → IsNext cs before ⊎ AllByRecursion (λ c. comes_next before c ≡ false) cs
next_or before [] = inr tt
next_or before (c ∷ cs) = by (comes_next before c) refl (next_or before cs)
  where
    is_there : comes_next before c ≡ true → c.ts ≡ before + 1
    is_there e = grind (arith, common_steps)

    by : (v : Bool) → comes_next before c ≡ v → IsNext cs before ⊎ AllByRecursion (λ d. comes_next before d ≡ false) cs → IsNext (c ∷ cs) before ⊎ AllByRecursion (λ d. comes_next before d ≡ false) (c ∷ cs)
    by true e rest = inl (record { front = []; commit = c; back = cs; stands = refl; ts_is = is_there e })
    by false e (inl n) = let stands = n.stands in inl (record { front = c ∷ n.front; commit = n.commit; back = n.back; stands = λ i. c ∷ stands i; ts_is = n.ts_is })
    by false e (inr a) = inr (e, a)

same_test : (before ts : ℕ) → (nat_lt before ts && nat_le ts (before + 1)) ≡ false → nat_le ts (before + 1) ≡ nat_le ts before
same_test before ts e = by (nat_lt before ts) refl e
  where
    by : (v : Bool) → nat_lt before ts ≡ v → (v && nat_le ts (before + 1)) ≡ false → nat_le ts (before + 1) ≡ nat_le ts before
    by true is h = let low : nat_le ts before ≡ false = grind (arith, common_steps) in h ∙ sym low
    by false is h =
        let low : nat_le ts before ≡ true = grind (arith, common_steps) in
        let high : nat_le ts (before + 1) ≡ true = grind (arith, common_steps) in
        high ∙ sym low

same_from : (alters : List Alter) (before : ℕ) (g : List Triple) (cs : List Commit) → AllByRecursion (λ c. comes_next before c ≡ false) cs → fold (after_commit alters (before + 1)) g cs ≡ fold (after_commit alters before) g cs
same_from alters before g [] a = refl
same_from alters before g (c ∷ cs) a =
    let one : after_commit alters (before + 1) g c ≡ after_commit alters before g c
    = ap (λ (b : Bool). cond b (after_changes (schema_at alters c.ts) g c.changes) g) (same_test before c.ts a.0) in
    ap (λ (x : List Triple). fold (after_commit alters (before + 1)) x cs) one ∙ same_from alters before (after_commit alters before g c) cs a.1

-- ---- the timestamp at which the last node lost the value

none_or_some : {X : Type 0} (xs : List X) → (xs ≡ []) ⊎ (xs ≢ [])
none_or_some [] = inl refl
none_or_some (x ∷ xs) = inr (λ e. cc)

module _ (m : Machine) (p : List ℕ) (value : Value) where
  -- at this timestamp a node had it, and at the next none has
  record IsLost (low high : ℕ) : Type 0 where
    before : ℕ
    from : low ≤ before
    upto : before + 1 ≤ high
    had : nodes_at m p value before ≢ []
    none_left : nodes_at m p value (before + 1) ≡ []

  lost : (low more : ℕ) → nodes_at m p value low ≢ [] → nodes_at m p value (low + more) ≡ [] → IsLost low (low + more)
  lost low zero some none =
      let same : low + 0 ≡ low = omega arith in
      absurd (some (subst (λ (n : ℕ). nodes_at m p value n ≡ []) same none))
  lost low (suc more) some none = by (none_or_some (nodes_at m p value (low + more))) (λ e. lost low more some e)
    where
      on : low + suc more ≡ (low + more) + 1
      on = omega arith

      by : (nodes_at m p value (low + more) ≡ []) ⊎ (nodes_at m p value (low + more) ≢ []) → (nodes_at m p value (low + more) ≡ [] → IsLost low (low + more)) → IsLost low (low + suc more)
      by (inl e) earlier =
          let l = earlier e in
          record { before = l.before; from = l.from; upto = omega (arith, l.upto); had = l.had; none_left = l.none_left }
      by (inr h) earlier =
          record { before = low + more; from = omega arith; upto = omega arith; had = h; none_left = subst (λ (n : ℕ). nodes_at m p value n ≡ []) on none }

  took_away : (first second : Commit) → IsLost first.ts second.start → (between : Commit) × TookAway m p value first second between
  took_away first second l = by (next_or l.before m.commits)
    where
      by : IsNext m.commits l.before ⊎ AllByRecursion (λ c. comes_next l.before c ≡ false) m.commits → (between : Commit) × TookAway m p value first second between
      by (inl n) =
          let back = sym n.ts_is in (
            n.commit,
            record {
              front = n.front;
              back = n.back;
              stands = n.stands;
              later = omega (arith, l.from, n.ts_is);
              seen = omega (arith, l.upto, n.ts_is);
              before = l.before;
              next_is = n.ts_is;
              had = l.had;
              none_left = subst (λ (ts : ℕ). nodes_at m p value ts ≡ []) back l.none_left;
            },
          )
      by (inr a) =
          let same : committed_at m.alters m.commits (l.before + 1) ≡ committed_at m.alters m.commits l.before = same_from m.alters l.before [] m.commits a in
          absurd (l.had (ap (λ (graph : List Triple). subjects_of graph p (Val value)) (sym same) ∙ l.none_left))

pub none_unseen : NoneUnseen
none_unseen list groups requests replies m run p value first second r some none =
    let le : first.ts ≤ second.start = later_began list groups requests replies m run p value first second r in
    let far : second.start ≡ first.ts + (second.start - first.ts) = omega (arith, le) in
    let back = sym far in
    let l : IsLost m p value first.ts (first.ts + (second.start - first.ts)) = lost m p value first.ts (second.start - first.ts) some (subst (λ (n : ℕ). nodes_at m p value n ≡ []) far none) in
    took_away m p value first second (subst (IsLost m p value first.ts) back l)
