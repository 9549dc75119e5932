-- In any order in which each block stands behind those that it uses, blocks make the same known.
use Rattle.std.proofs.Common.{◌≡◌, ℕ, zero, suc, ◌<◌, Bool, true, false, List, [], ◌∷◌, ◌++◌, map, length, refl, sym, ap, ◌∙◌, subst, append-nil}
use Rattle.std.specs.Prelude.{Option, Some, None, not, ◌==◌, fold, slice_get}
use Rattle.std.specs.List.{list_all}
use Rattle.std.proofs.lemmas.Bool.{false≢true}
use Rattle.std.proofs.lemmas.Map.Views.{exact_unsigned_eq}
use Rattle.std.proofs.lemmas.Option.{slice_get_within}
use Rattle.dg_check.specs.declared.vars.Variable.{Variable}
use Rattle.dg_check.specs.Cycles.{is_place_in}
use Rattle.dg_check.specs.Names.{is_name_in}
use Rattle.dg_check.specs.RunOrder.{deps_at, is_ready, are_ready}
use Rattle.dg_check.proofs.CycleLaws.{all_has}
use Rattle.dg_check.proofs.OrderLaws.{left_part, right_of, one_behind, place_more}
use Rattle.dg_check.proofs.ReachLaws.{or_left}
use Rattle.dg_level.specs.Given.{Known, with_known}
use Rattle.dg_level.proofs.SetPlaces.{places_in}
use Rattle.dg_level.proofs.KnownLaws.{both, or_else, refuted, none_alike, same_list, counted, away, set_alike, has_at, place, unnamed, place_away, place_there}

-- ---- blocks that run

-- the variables once the block at a place has run
abbrev pub run_one : (List Variable → ℕ → List Known) → List Variable → ℕ → List Variable
run_one gives vars at = fold with_known vars (gives vars at)

-- what blocks make known is tied to the names that they define and use: a block sets the places of those that it defines, and depends on what those stand for
-- that it uses; each name is defined by one block and has one place; and a block has those among its dependencies that define what it uses
pub record AreTied (names : List (List ℕ)) (deps : List (List ℕ)) (defined used : ℕ → List (List ℕ)) (gives : List Variable → ℕ → List Known) : Type 0 where
  pub sets : (vars : List Variable) (at : ℕ) → places_in (gives vars at) ≡ map (place names) (defined at)
  pub local : (vars others : List Variable) (at : ℕ) → ((x : List ℕ) → is_name_in (used at) x ≡ true → slice_get vars (place names x) ≡ slice_get others (place names x)) → gives vars at ≡ gives others at
  pub known : (at : ℕ) (x : List ℕ) → is_name_in (defined at) x ≡ true → is_name_in names x ≡ true
  pub found : (x : List ℕ) → is_name_in names x ≡ true → (at : ℕ) × (at < length deps) × (is_name_in (defined at) x ≡ true)
  pub apart : (at other : ℕ) (x : List ℕ) → is_name_in (defined at) x ≡ true → is_name_in (defined other) x ≡ true → at ≡ other
  pub once : (at : ℕ) (x : List ℕ) → slice_get names at ≡ Some x → place names x ≡ at
  pub needs : (at other : ℕ) (x : List ℕ) → is_name_in (used at) x ≡ true → is_name_in (defined other) x ≡ true → is_place_in (deps_at deps at) other ≡ true

-- a block that is ready hasn't run
not_run : (ran : List ℕ) (at : ℕ) (o : Option (List ℕ)) → is_ready ran at o ≡ true → is_place_in ran at ≡ false
not_run ran at None e = absurd (cc)
not_run ran at (Some needed) e = by (is_place_in ran at) (left_part (not (is_place_in ran at)) (list_all (is_place_in ran) needed) e)
  where
    by : (b : Bool) → not b ≡ true → b ≡ false
    by true f = absurd (cc)
    by false f = refl

-- nor does it depend on one that hasn't
have_run : (deps : List (List ℕ)) (ran : List ℕ) (at i : ℕ) → is_ready ran at (slice_get deps i) ≡ true → list_all (is_place_in ran) (deps_at deps i) ≡ true
have_run [] ran at i e = absurd (cc)
have_run (needed ∷ more) ran at zero e = right_of (not (is_place_in ran at)) (list_all (is_place_in ran) needed) e
have_run (needed ∷ more) ran at (suc i) e = have_run more ran at i e

-- and is a block
is_block : (deps : List (List ℕ)) (ran : List ℕ) (at : ℕ) (o : Option (List ℕ)) → slice_get deps at ≡ o → is_ready ran at o ≡ true → at < length deps
is_block deps ran at None f e = absurd (cc)
is_block deps ran at (Some needed) f e = slice_get_within deps at needed f

-- one of those that ran, or the last
last_ran : (ran : List ℕ) (last at : ℕ) → is_place_in (ran ++ last ∷ []) at ≡ true → is_place_in ran at ≡ false → last ≡ at
last_ran ran last at e f = exact_unsigned_eq last at (or_else (is_place_in ran at) (last == at) (sym (place_more ran last at) ∙ e) f)

module _ {names : List (List ℕ)} {deps : List (List ℕ)} {defined used : ℕ → List (List ℕ)} {gives : List Variable → ℕ → List Known} (tied : AreTied names deps defined used gives) where
  -- ---- what blocks made known they make known again

  -- the variables are as many as the names; what a block that ran uses was made known by one that ran; and each block that ran makes known again what its variables stand for
  pub record IsFixed (ran : List ℕ) (vars : List Variable) : Type 0 where
    pub many : length vars ≡ length names
    pub closed : (at other : ℕ) (x : List ℕ) → is_place_in ran at ≡ true → is_name_in (used at) x ≡ true → is_name_in (defined other) x ≡ true → is_place_in ran other ≡ true
    pub again : (at : ℕ) (x : List ℕ) → is_place_in ran at ≡ true → is_name_in (defined at) x ≡ true → slice_get (run_one gives vars at) (place names x) ≡ slice_get vars (place names x)

  -- a block leaves variables alone that it doesn't define
  unchanged : (vars : List Variable) (at : ℕ) (x : List ℕ) → is_name_in (defined at) x ≡ false → slice_get (run_one gives vars at) (place names x) ≡ slice_get vars (place names x)
  unchanged vars at x e = away (gives vars at) vars (place names x) (ap (λ l. is_place_in l (place names x)) (tied.sets vars at) ∙ place_away names (defined at) x (tied.known at) e)

  -- and sets those that it defines, whatever they stood for
  set_same : (given vars others : List Variable) (at : ℕ) (x : List ℕ) → length vars ≡ length others → is_name_in (defined at) x ≡ true
      → slice_get (fold with_known vars (gives given at)) (place names x) ≡ slice_get (fold with_known others (gives given at)) (place names x)
  set_same given vars others at x same e = set_alike (gives given at) vars others (place names x) same (ap (λ l. is_place_in l (place names x)) (tied.sets given at) ∙ place_there names (defined at) x e)

  many_more : (vars : List Variable) (at : ℕ) → length (run_one gives vars at) ≡ length vars
  many_more vars at = counted (gives vars at) vars

  module _ (ran : List ℕ) (last : ℕ) (ready : is_ready ran last (slice_get deps last) ≡ true) where
    needed : (other : ℕ) (x : List ℕ) → is_name_in (used last) x ≡ true → is_name_in (defined other) x ≡ true → is_place_in ran other ≡ true
    needed other x e f = all_has (is_place_in ran) (deps_at deps last) other (have_run deps ran last last ready) (tied.needs last other x e f)

    out : is_place_in ran last ≡ false
    out = not_run ran last (slice_get deps last) ready

    module _ (vars : List Variable) (fixed : IsFixed ran vars) where
      abbrev after : List Variable
      after = run_one gives vars last

      closed_before : (at other : ℕ) (x : List ℕ) → is_place_in (ran ++ last ∷ []) at ≡ true → is_name_in (used at) x ≡ true → is_name_in (defined other) x ≡ true → is_place_in ran other ≡ true
      closed_before at other x there e f = by (is_place_in ran at) refl
        where
          by : (b : Bool) → is_place_in ran at ≡ b → is_place_in ran other ≡ true
          by true g = fixed.closed at other x g e f
          by false g = needed other x (subst (λ (p : ℕ). is_name_in (used p) x ≡ true) (sym (last_ran ran last at there g)) e) f

      -- no block that ran uses what the last one defines
      not_used : (at : ℕ) (x : List ℕ) → is_place_in (ran ++ last ∷ []) at ≡ true → is_name_in (used at) x ≡ true → is_name_in (defined last) x ≡ false
      not_used at x there e = refuted (is_name_in (defined last) x) (λ f. both (closed_before at last x there e f) out)

      -- so each gives what it gave before
      gives_still : (at : ℕ) → is_place_in (ran ++ last ∷ []) at ≡ true → gives after at ≡ gives vars at
      gives_still at there = tied.local after vars at (λ x e. unchanged vars last x (not_used at x there e))

      sets_still : (at : ℕ) (x : List ℕ) → is_place_in (ran ++ last ∷ []) at ≡ true → is_name_in (defined at) x ≡ true → slice_get (run_one gives after at) (place names x) ≡ slice_get (run_one gives vars at) (place names x)
      sets_still at x there e =
          ap (λ known. slice_get (fold with_known after known) (place names x)) (gives_still at there)
          ∙ set_same vars after vars at x (many_more vars last) e

      again_after : (at : ℕ) (x : List ℕ) → is_place_in (ran ++ last ∷ []) at ≡ true → is_name_in (defined at) x ≡ true → slice_get (run_one gives after at) (place names x) ≡ slice_get after (place names x)
      again_after at x there e = sets_still at x there e ∙ by (is_place_in ran at) refl
        where
          apart_from : is_place_in ran at ≡ true → is_name_in (defined last) x ≡ true → ⊥
          apart_from g f = both (subst (λ (p : ℕ). is_place_in ran p ≡ true) (tied.apart at last x e f) g) out

          by : (b : Bool) → is_place_in ran at ≡ b → slice_get (run_one gives vars at) (place names x) ≡ slice_get after (place names x)
          by true g = fixed.again at x g e ∙ sym (unchanged vars last x (refuted (is_name_in (defined last) x) (apart_from g)))
          by false g = ap (λ p. slice_get (run_one gives vars p) (place names x)) (sym (last_ran ran last at there g))

      fixed_after : IsFixed (ran ++ last ∷ []) after
      fixed_after = record {
        many = many_more vars last ∙ fixed.many;
        closed = λ at other x there e f. place_more ran last other ∙ or_left (is_place_in ran other) (last == other) (closed_before at other x there e f);
        again = again_after;
      }

  -- so it is after all blocks of an order
  fixed_run : (order ran : List ℕ) (vars : List Variable) → are_ready deps ran order ≡ true → IsFixed ran vars → IsFixed (ran ++ order) (fold (run_one gives) vars order)
  fixed_run [] ran vars ready fixed = subst (λ (l : List ℕ). IsFixed l vars) (sym (append-nil ran)) fixed
  fixed_run (at ∷ order) ran vars ready fixed =
      let here = left_part (is_ready ran at (slice_get deps at)) (are_ready deps (ran ++ at ∷ []) order) ready in
      let rest = right_of (is_ready ran at (slice_get deps at)) (are_ready deps (ran ++ at ∷ []) order) ready in
      subst (λ (l : List ℕ). IsFixed l (fold (run_one gives) vars (at ∷ order))) (one_behind ran at order) (fixed_run order (ran ++ at ∷ []) (run_one gives vars at) rest (fixed_after ran at here vars fixed))

  -- ---- what is made known so is one

  module _ (all : List ℕ) (final : List Variable) (fixed : IsFixed all final) (whole : (at : ℕ) → at < length deps → is_place_in all at ≡ true) where
    -- what blocks that ran define stands for what it does at the end
    pub record AreFinal (ran : List ℕ) (vars : List Variable) : Type 0 where
      pub many : length vars ≡ length names
      pub stand : (at : ℕ) (x : List ℕ) → is_place_in ran at ≡ true → is_name_in (defined at) x ≡ true → slice_get vars (place names x) ≡ slice_get final (place names x)

    module _ (ran : List ℕ) (last : ℕ) (ready : is_ready ran last (slice_get deps last) ≡ true) (vars : List Variable) (are : AreFinal ran vars) where
      same_many : length vars ≡ length final
      same_many = are.many ∙ sym fixed.many

      -- a block that is ready uses what is known, or what no block defines
      uses_final : (x : List ℕ) → is_name_in (used last) x ≡ true → slice_get vars (place names x) ≡ slice_get final (place names x)
      uses_final x e = by (is_name_in names x) refl
        where
          met : (at : ℕ) × (at < length deps) × (is_name_in (defined at) x ≡ true) → slice_get vars (place names x) ≡ slice_get final (place names x)
          met (at, lt, f) = are.stand at x (needed ran last ready at x e f) f

          by : (b : Bool) → is_name_in names x ≡ b → slice_get vars (place names x) ≡ slice_get final (place names x)
          by true f = met (tied.found x f)
          by false f =
              let none = unnamed names x f in
              none_alike names vars (place names x) (sym are.many) none ∙ sym (none_alike names final (place names x) (sym fixed.many) none)

      -- so it gives what it gives at the end
      gives_final : gives vars last ≡ gives final last
      gives_final = tied.local vars final last uses_final

      stands_after : (at : ℕ) (x : List ℕ) → is_place_in (ran ++ last ∷ []) at ≡ true → is_name_in (defined at) x ≡ true → slice_get (run_one gives vars last) (place names x) ≡ slice_get final (place names x)
      stands_after at x there e = by (is_name_in (defined last) x) refl
        where
          ran_before : is_name_in (defined last) x ≡ false → is_place_in ran at ≡ true
          ran_before f = by_place (is_place_in ran at) refl
            where
              by_place : (b : Bool) → is_place_in ran at ≡ b → is_place_in ran at ≡ true
              by_place true g = g
              by_place false g = absurd (both e (ap (λ p. is_name_in (defined p) x) (sym (last_ran ran last at there g)) ∙ f))

          by : (b : Bool) → is_name_in (defined last) x ≡ b → slice_get (run_one gives vars last) (place names x) ≡ slice_get final (place names x)
          by true f =
              ap (λ known. slice_get (fold with_known vars known) (place names x)) gives_final
              ∙ set_same final vars final last x same_many f
              ∙ fixed.again last x (whole last (is_block deps ran last (slice_get deps last) refl ready)) f
          by false f = unchanged vars last x f ∙ are.stand at x (ran_before f) e

      final_after : AreFinal (ran ++ last ∷ []) (run_one gives vars last)
      final_after = record { many = many_more vars last ∙ are.many; stand = stands_after }

    final_run : (order ran : List ℕ) (vars : List Variable) → are_ready deps ran order ≡ true → AreFinal ran vars → AreFinal (ran ++ order) (fold (run_one gives) vars order)
    final_run [] ran vars ready are = subst (λ (l : List ℕ). AreFinal l vars) (sym (append-nil ran)) are
    final_run (at ∷ order) ran vars ready are =
        let here = left_part (is_ready ran at (slice_get deps at)) (are_ready deps (ran ++ at ∷ []) order) ready in
        let rest = right_of (is_ready ran at (slice_get deps at)) (are_ready deps (ran ++ at ∷ []) order) ready in
        subst (λ (l : List ℕ). AreFinal l (fold (run_one gives) vars (at ∷ order))) (one_behind ran at order) (final_run order (ran ++ at ∷ []) (run_one gives vars at) rest (final_after ran at here vars are))

    -- once all blocks have run
    final_same : (ran : List ℕ) (vars : List Variable) → ((at : ℕ) → at < length deps → is_place_in ran at ≡ true) → AreFinal ran vars → vars ≡ final
    final_same ran vars complete are = same_list vars final (λ i. by i (slice_get names i) refl)
      where
        met : (i : ℕ) (x : List ℕ) → place names x ≡ i → (at : ℕ) × (at < length deps) × (is_name_in (defined at) x ≡ true) → slice_get vars i ≡ slice_get final i
        met i x e (at, lt, f) = subst (λ (p : ℕ). slice_get vars p ≡ slice_get final p) e (are.stand at x (complete at lt) f)

        by : (i : ℕ) (o : Option (List ℕ)) → slice_get names i ≡ o → slice_get vars i ≡ slice_get final i
        by i None e = none_alike names vars i (sym are.many) e ∙ sym (none_alike names final i (sym fixed.many) e)
        by i (Some x) e = met i x (tied.once i x e) (tied.found x (has_at names i x e))

  -- two orders of all blocks, in each of which each block stands behind those that it depends on, end in the same
  pub same_end : (vars : List Variable) (order other : List ℕ) → length vars ≡ length names → are_ready deps [] order ≡ true → are_ready deps [] other ≡ true
      → ((at : ℕ) → at < length deps → is_place_in order at ≡ true) → ((at : ℕ) → at < length deps → is_place_in other at ≡ true) → fold (run_one gives) vars order ≡ fold (run_one gives) vars other
  same_end vars order other many ready_one ready_other all_one all_other =
      let fixed = fixed_run other [] vars ready_other (record { many = many; closed = λ at other x e f g. absurd (false≢true e); again = λ at x e f. absurd (false≢true e) }) in
      let are = final_run other (fold (run_one gives) vars other) fixed all_other order [] vars ready_one (record { many = many; stand = λ at x e f. absurd (false≢true e) }) in
      final_same other (fold (run_one gives) vars other) fixed all_other order (fold (run_one gives) vars order) all_one are
