-- The callers that are given back at the end.
use Rattle.std.proofs.Common.{◌≡◌, ◌≢◌, ℕ, zero, suc, ◌+◌, ◌<◌, ◌≤◌, ◌==◌, List, [], ◌∷◌, ◌++◌, length, set, sym, refl, ap, ◌∙◌, subst, arith}
use Rattle.std.proofs.lemmas.Bool.Decides.{nat_tests}
use Rattle.std.specs.Prelude.{Option, Some, None}
use mathlib.Core.Logic.{dite}
use mathlib.Core.Option.{some, some-injective, some-ne-none}
use mathlib.Core.List.{IsPrefix}
use native.Mathlib.Decide.{ℕ_discrete}
use lib.ListN.{get_elem?}
use Rattle.atomic_table.specs.Table.{Final, Seen}
use Rattle.atomic_table.specs.Seated.{TableId}
use Rattle.dg_turn.specs.declared.view.View.{View}
use Rattle.dg_turn.specs.declared.view.Stage.TheVariants.{Idle, InTurn}
use Rattle.dg_turn.specs.Total.{total}
use Rattle.dg_turn.specs.History.{places_of, AuthorsBelow, longer, Ascend}
use Rattle.dg_turn.specs.Laws.{made_by}
use Rattle.dg_turn.specs.Rule.{OwnPlaces, tickets_at, count_of, Placed, in_range, idle, Rule}
use Rattle.dg_turn.specs.Seats.{Seated, caller_view, IsIdle, Merged, numbers_of, Gathered, Ends}
use Rattle.dg_turn.specs.Values.{CallerValue, OfTurn, BeginsWithEach, HavePlaces, EachAscends, occurs, owners}
use Rattle.dg_turn.proofs.Places.{bit, occurs-at, places_ascend}
use Rattle.dg_turn.proofs.Prefixes.{prefix_trans, prefix_longer}
use Rattle.dg_turn.proofs.Sums.{sum_set, terms_le, sum_le}

module _ {E : Type 0} where
  pub OfTurn-front : (z : TableId) (cs ds : List (CallerValue E)) → OfTurn z (cs ++ ds) → OfTurn z cs × OfTurn z ds
  OfTurn-front z [] ds h = (tt, h)
  OfTurn-front z (c ∷ cs) ds h = let r = OfTurn-front z cs ds h.1 in ((h.0, r.0), r.1)

  pub BeginsWithEach-longer : (xs ys : List E) (cs : List (CallerValue E)) → IsPrefix xs ys → BeginsWithEach xs cs → BeginsWithEach ys cs
  BeginsWithEach-longer xs ys [] p h = tt
  BeginsWithEach-longer xs ys (c ∷ cs) p h = (prefix_trans c.seen xs ys h.0 p, BeginsWithEach-longer xs ys cs p h.1)

  pub BeginsWithEach-append : (xs : List E) (cs ds : List (CallerValue E)) → BeginsWithEach xs cs → BeginsWithEach xs ds → BeginsWithEach xs (cs ++ ds)
  BeginsWithEach-append xs [] ds h h' = h'
  BeginsWithEach-append xs (c ∷ cs) ds h h' = (h.0, BeginsWithEach-append xs cs ds h.1 h')

  pub numbers_of-append : (cs ds : List (CallerValue E)) → numbers_of (cs ++ ds) ≡ numbers_of cs ++ numbers_of ds
  numbers_of-append [] ds = refl
  numbers_of-append (c ∷ cs) ds = ap (λ (l : List OwnPlaces). (c.number, c.mine) ∷ l) (numbers_of-append cs ds)

  pub length-numbers_of : (cs : List (CallerValue E)) → length (numbers_of cs) ≡ length cs
  length-numbers_of [] = refl
  length-numbers_of (c ∷ cs) = ap suc (length-numbers_of cs)

same_test : (a b : ℕ) → bit (a == b) ≡ bit (b == a)
same_test a b = grind (arith, nat_tests)

count_of_le : (k : ℕ) (ps : List OwnPlaces) → count_of k ps ≤ length ps
count_of_le k [] = omega arith
count_of_le k (p ∷ ps) = let one : bit (p.0 == k) ≤ 1 = grind (arith, nat_tests) in omega (arith, one, count_of_le k ps)

there : {A : Type 0} (l : List A) (i : ℕ) → i < length l → (a : A) × (get_elem? l i ≡ some a)
there [] i h = absurd (omega arith)
there (x ∷ xs) zero h = (x, refl)
there (x ∷ xs) (suc i) h = there xs i (omega arith)

module _ {E : Type 0} (author : E → ℕ) where
  owners_are : (log : List E) (i : ℕ) (e : E) (cs : List (CallerValue E)) → get_elem? log i ≡ some e → Placed (places_of author log) (numbers_of cs) → owners i cs ≡ count_of (author e) (numbers_of cs)
  owners_are log i e [] at placed = refl
  owners_are log i e (c ∷ cs) at placed =
      let here : occurs i c.mine ≡ bit (author e == c.number) = ap (occurs i) placed.0 ∙ (let e' : i ≡ 0 + i = omega arith in ap (λ (j : ℕ). occurs j (places_of author log c.number)) e') ∙ occurs-at author c.number 0 i log ∙ ap (made_by author c.number) at in
      omega (arith, here, same_test (author e) c.number, owners_are log i e cs at placed.1)

  below_at : (n i : ℕ) (es : List E) (e : E) → AuthorsBelow author n es → get_elem? es i ≡ some e → author e < n
  below_at n i [] e h at = absurd (some-ne-none e (sym at))
  below_at n zero (x ∷ xs) e h at = subst (λ (y : E). author y < n) (some-injective x e at) h.0
  below_at n (suc i) (x ∷ xs) e h at = below_at n i xs e h.1 at

  -- each place is in one caller's own places
  pub one_owner : (n : ℕ) (log : List E) (cs : List (CallerValue E)) → Placed (places_of author log) (numbers_of cs) → AuthorsBelow author n log → ((k : ℕ) → count_of k (numbers_of cs) ≡ in_range 0 n k) → (i : ℕ) → i < length log → owners i cs ≡ 1
  one_owner n log cs placed below once i h =
      let e = there log i h in
      let by : author e.0 < n = below_at n i log e.0 below e.1 in
      let one : in_range 0 n (author e.0) ≡ 1 = grind (arith, nat_tests) in
      omega (arith, owners_are log i e.0 cs e.1 placed, once (author e.0), one)

module _ {E : Type 0} (author : E → ℕ) where
  pub have_places : (log : List E) (cs : List (CallerValue E)) → Placed (places_of author log) (numbers_of cs) → HavePlaces author log cs
  have_places log [] p = tt
  have_places log (c ∷ cs) p = (p.0, have_places log cs p.1)

  pub each_ascends : (log : List E) (cs : List (CallerValue E)) → Placed (places_of author log) (numbers_of cs) → EachAscends cs
  each_ascends log [] p = tt
  each_ascends log (c ∷ cs) p = (subst Ascend (sym p.0) (places_ascend author c.number 0 log), each_ascends log cs p.1)

abbrev inner_or : {S : Type 0} → S → Option S → S
inner_or d None = d
inner_or d (Some x) = x

module _ {S E : Type 0} where
  idle_is : (n : Seated S E) (seen : List E) (numbers : List OwnPlaces) → n ≡ (idle seen numbers, []) → IsIdle n
  idle_is n seen numbers e = subst (λ (z : Seated S E). IsIdle z) (sym e) refl

  -- all callers were gathered into the seat of the last
  pub closes : (m n : Seated S E) (cs rest : List (CallerValue E)) (c : CallerValue E) → cs ≡ rest ++ c ∷ [] → m ≡ (caller_view c.seen c.number c.mine, []) → Gathered m rest n → (n.0.numbers ≡ numbers_of cs) × BeginsWithEach n.0.seen cs
  closes m n cs rest c is m_is g =
      let one : m.0.numbers ≡ numbers_of (c ∷ []) = ap (λ (z : Seated S E). z.0.numbers) m_is in
      let numbers : n.0.numbers ≡ numbers_of cs = g.1 ∙ ap (λ (l : List OwnPlaces). numbers_of rest ++ l) one ∙ sym (numbers_of-append rest (c ∷ [])) ∙ ap numbers_of (sym is) in
      let last : IsPrefix c.seen n.0.seen = subst (λ (z : Seated S E). IsPrefix z.0.seen n.0.seen) m_is g.2 in
      (numbers, subst (BeginsWithEach n.0.seen) (sym is) (BeginsWithEach-append n.0.seen rest (c ∷ []) g.3 (last, tt)))

module _ {S E : Type 0} (author : E → ℕ) where
  -- one caller more
  pub gathered_more : (m n o p : Seated S E) (c : CallerValue E) (done : List (CallerValue E)) → Gathered m done n → o ≡ (caller_view c.seen c.number c.mine, []) → Merged author n o p → Gathered m (c ∷ done) p
  gathered_more m n o p c done before o_is merged =
      let begins = prefix_longer n.0.seen o.0.seen merged.1.0 merged.1.1 merged.1.2 in
      let seen : p.0.seen ≡ longer n.0.seen o.0.seen = ap (λ (z : Seated S E). z.0.seen) merged.0 in
      let numbers : p.0.numbers ≡ o.0.numbers ++ n.0.numbers = ap (λ (z : Seated S E). z.0.numbers) merged.0 in
      let old : IsPrefix n.0.seen p.0.seen = subst (IsPrefix n.0.seen) (sym seen) begins.0 in
      let new : IsPrefix o.0.seen p.0.seen = subst (IsPrefix o.0.seen) (sym seen) begins.1 in (
        idle_is p (longer n.0.seen o.0.seen) (o.0.numbers ++ n.0.numbers) merged.0,
        numbers ∙ ap (λ (z : Seated S E). z.0.numbers ++ n.0.numbers) o_is ∙ ap (λ (l : List OwnPlaces). (c.number, c.mine) ∷ l) before.1,
        prefix_trans m.0.seen n.0.seen p.0.seen before.2 old,
        (subst (λ (z : Seated S E). IsPrefix z.0.seen p.0.seen) o_is new, BeginsWithEach-longer n.0.seen p.0.seen done old before.3),
      )

module _ {S E : Type 0} (history : S → List E) (author : E → ℕ) where
  pub ends : (n id : ℕ) (m : Seated S E) (ws : List ℕ) (xs : List (Option S)) (x : Option S) → IsIdle m → length m.0.numbers ≡ n → Final (Seen (Rule history author n) id m.0) ws xs → get_elem? xs 0 ≡ some x → (y : S) × (x ≡ Some y) × Ends history author n m y
  ends n id m ws xs x idles all final at =
      let s = final.0 in
      let r : Rule history author n s = final.1.0 in
      let here : get_elem? s.views id ≡ some m.0 = final.1.1 in
      let rests : m.0.stage ≡ Idle = ap (λ (z : Seated S E). z.0.stage) idles in
      let g : View E → ℕ = λ v. length v.numbers in
      let nobody : (j : ℕ) (v : View E) → get_elem? s.views j ≡ some v → v.stage ≢ InTurn = λ j v e i.
      dite (ℕ_discrete j id)
      (λ same. absurd (cc (rests, i, ap (λ (z : View E). z.stage) (some-injective v m.0 (sym e ∙ ap (get_elem? s.views) same ∙ here)))))
      (λ ne. let o : tickets_at v.stage ≡ 1 = ap tickets_at i in absurd (omega (arith, o, r.notes j v e, terms_le g s.views id j m.0 v ne here e, r.all, all))) in
      let home = r.home nobody in
      let y : S = home.0 in
      let slot : get_elem? xs 0 ≡ some (Some y) = final.4 0 (Some y) home.1 in
      let log : r.log ≡ history y = sym home.2 in
      let z : View E = idle [] [] in
      let empty : total g (set s.views id z) ≡ 0 = omega (arith, sum_set g s.views id m.0 z here, r.all, all) in (
        y,
        some-injective x (Some y) (sym at ∙ slot),
        (
          subst (IsPrefix m.0.seen) log (r.seen id m.0 here).0,
          subst (λ (l : List E). Placed (places_of author l) m.0.numbers) log (r.places id m.0 here),
          subst (AuthorsBelow author n) log r.authors,
          λ k. let h : View E → ℕ = λ v. count_of k v.numbers in omega (arith, sum_set h s.views id m.0 z here, sum_le h g (set s.views id z) (λ j v e. count_of_le k v.numbers), empty, r.numbers k),
        ),
      )

  pub ended : (n : ℕ) (m : Seated S E) (x : Option S) (y : S) → ((w : S) × (x ≡ Some w) × Ends history author n m w) → x ≡ Some y → Ends history author n m y
  ended n m x y f is = subst (Ends history author n m) (ap (inner_or y) (sym f.1 ∙ is)) f.2

  pub closed_mine : (k : ℕ) (n : Seated S E) (cs : List (CallerValue E)) (y : S) → n.0.numbers ≡ numbers_of cs → Ends history author k n y → Placed (places_of author (history y)) (numbers_of cs)
  closed_mine k n cs y numbers f = subst (Placed (places_of author (history y))) numbers f.1

  pub closed_places : (k : ℕ) (n : Seated S E) (cs : List (CallerValue E)) (y : S) → n.0.numbers ≡ numbers_of cs → Ends history author k n y → (i : ℕ) → i < length (history y) → owners i cs ≡ 1
  closed_places k n cs y numbers f =
      one_owner author k (history y) cs (closed_mine k n cs y numbers f) f.2 (λ j. subst (λ (l : List OwnPlaces). count_of j l ≡ in_range 0 k j) numbers (f.3 j))
