-- Commits as they are seen, through the marks that are kept of them.
use Rattle.std.proofs.Common.{◌≡◌, ℕ, ◌+◌, ◌<◌, ◌≤◌, Bool, true, false, cond, List, [], ◌∷◌, ◌++◌, length, map, max, take, drop, get_or, filter, refl, ap, subst, sym, ◌∙◌, inl, inr, append_assoc, arith}
use Rattle.std.specs.Prelude.{◌==◌, ◌||◌, ◌&&◌, ◌⊎◌, nat_lt, Option, Some, None, if◌then◌else◌}
use Rattle.std.specs.List.{AllByRecursion}
use Rattle.std.specs.declared.cmp.Ordering.{Ordering}
use Rattle.std.proofs.lemmas.Grind.{common_steps}
use Rattle.std.proofs.lemmas.List.{take_more}
use Rattle.std.proofs.Math.Seq.{take-length, drop-length}
use Rattle.std.proofs.lemmas.List.Elements.{filter-append}
use Rattle.dg_oracle.specs.declared.mark.Mark.{Mark}
use Rattle.dg_oracle.specs.Commits.{Commit, Ascends, ts_of, is_among, above}
use Rattle.dg_oracle.specs.Verdicts.{clashes, or_else, last_clash}
use Rattle.dg_oracle.specs.Histories.{Layer, marked_at, keys_at, IsApart, HasSameKeys, marks_of, IsLayered, commit_at, commits_of, marks_above, cut_above, is_marked, IsLast, later_of}
use Rattle.dg_oracle.proofs.Marks.{keys_append, front_empty, back_empty, keys_of_commit, keys_elsewhere, keys_above, none_above_line, none_below_line, not_there, marked_append, not_marked, same_number}
use Rattle.dg_oracle.proofs.Oracles.{map_push}

-- runs one after another
pub marks_append : {K : Type 0} (rs ss : List (Layer K)) → marks_of (rs ++ ss) ≡ marks_of rs ++ marks_of ss
marks_append [] ss = refl
marks_append (r ∷ rs) ss = ap (λ (ms : List (Mark _)). r.marks ++ ms) (marks_append rs ss) ∙ sym (append_assoc r.marks (marks_of rs) (marks_of ss))

append_nil : {X : Type 0} (xs : List X) → xs ++ [] ≡ xs
append_nil [] = refl
append_nil (x ∷ xs) = ap (λ ys. x ∷ ys) (append_nil xs)

pub keys_of_runs : {K : Type 0} (ts : ℕ) (rs : List (Layer K)) (r : Layer K) → keys_at ts (marks_of (rs ++ r ∷ [])) ≡ keys_at ts (marks_of rs) ++ keys_at ts r.marks
keys_of_runs ts rs r =
    ap (λ (ms : List (Mark _)). keys_at ts ms) (marks_append rs (r ∷ [])) ∙ (keys_append ts (marks_of rs) (r.marks ++ []) ∙ ap (λ (ms : List (Mark _)). keys_at ts (marks_of rs) ++ keys_at ts ms) (append_nil r.marks))

module _ {K : Type 0} (cmp : K → K → Ordering) (start : ℕ) (key : K) where
  -- the last mark in one of two lists
  pub later_last : (xs ys : List (Mark K)) (r s : Option ℕ) → IsLast cmp xs start key r → IsLast cmp ys start key s → IsLast cmp (xs ++ ys) start key (later_of r s)
  later_last xs ys None None a b = (λ ts lt. rw (marked_append cmp key ts xs ys, a ts lt) (b ts lt))
  later_last xs ys (Some t) None a b = (
    a.0,
    (rw (marked_append cmp key t xs ys, a.1) refl),
    (λ ts lt. rw (marked_append cmp key ts xs ys, a.2 ts lt) (b ts (omega (arith, a.0)))),
  )
  later_last xs ys None (Some t) a b = (
    b.0,
    (rw (marked_append cmp key t xs ys, a t b.0) b.1),
    (λ ts lt. rw (marked_append cmp key ts xs ys, a ts (omega (arith, b.0))) (b.2 ts lt)),
  )
  later_last xs ys (Some t) (Some u) a b = (
    omega (arith, a.0),
    (marked (nat_lt t u) refl),
    (λ ts lt. rw (marked_append cmp key ts xs ys, a.2 ts (omega arith)) (b.2 ts (omega arith))),
  )
    where
      either : (b c : Bool) → c ≡ true → (b || c) ≡ true
      either true c e = refl
      either false c e = e

      marked : (b : Bool) → nat_lt t u ≡ b → is_marked cmp (xs ++ ys) key (max t u) ≡ true
      marked true e =
          let m : max t u ≡ u = grind (arith, common_steps) in
          rw (m, marked_append cmp key u xs ys) (either (is_marked cmp xs key u) (is_marked cmp ys key u) b.1)
      marked false e =
          let m : max t u ≡ t = grind (arith, common_steps) in
          rw (m, marked_append cmp key t xs ys, a.1) refl

  -- one more run
  pub last_with_run : (runs : List (Layer K)) (i : ℕ) (run : Layer K) (r s : Option ℕ) → i < length runs → run ≡ get_or runs i run → IsLast cmp (marks_of (take i runs)) start key r → IsLast cmp run.marks start key s → IsLast cmp (marks_of (take (i + 1) runs)) start key (later_of r s)
  last_with_run runs i run r s lt is a b =
      let e : take (i + 1) runs ≡ take i runs ++ run ∷ [] = take_more runs i run lt ∙ ap (λ (x : Layer K). take i runs ++ x ∷ []) (sym is) in
      let f : marks_of (take (i + 1) runs) ≡ marks_of (take i runs) ++ run.marks = ap marks_of e ∙ (marks_append (take i runs) (run ∷ []) ∙ ap (λ (ms : List (Mark K)). marks_of (take i runs) ++ ms) (append_nil run.marks)) in
      subst (λ (ms : List (Mark K)). IsLast cmp ms start key (later_of r s)) (sym f) (later_last (marks_of (take i runs)) run.marks r s a b)

  module _ (marks : List (Mark K)) where
    -- whether the commit at this timestamp clashes
    abbrev clashes_at : ℕ → Bool
    clashes_at ts = clashes cmp start key (commit_at marks ts)

    -- what one commit gives
    abbrev own : ℕ → Option ℕ
    own ts = if clashes_at ts then Some ts else None

    silent : (ts : ℕ) → (start < ts → is_marked cmp marks key ts ≡ false) → own ts ≡ None
    silent ts f = by (nat_lt start ts) (λ e. f (grind (arith, common_steps)))
      where
        inner : (b : Bool) → b ≡ false → (if b then Some ts else None) ≡ None
        inner b e = rw e refl

        by : (b : Bool) → (b ≡ true → is_marked cmp marks key ts ≡ false) → (if b && is_marked cmp marks key ts then Some ts else None) ≡ None
        by true g = inner (is_marked cmp marks key ts) (g refl)
        by false g = refl

    -- where no commit clashes
    none_clashes : (times : List ℕ) → AllByRecursion (λ ts. start < ts → is_marked cmp marks key ts ≡ false) times → last_clash cmp (commits_of marks times) start key ≡ None
    none_clashes [] a = refl
    none_clashes (ts ∷ times) a = rw (none_clashes times a.1, silent ts a.0) refl

    all_none : (times : List ℕ) → ((ts : ℕ) → start < ts → is_marked cmp marks key ts ≡ false) → AllByRecursion (λ ts. start < ts → is_marked cmp marks key ts ≡ false) times
    all_none [] f = tt
    all_none (ts ∷ times) f = ((λ lt. f ts lt), all_none times f)

    all_after : (low last : ℕ) (times : List ℕ) → last ≤ low → Ascends low times → ((ts : ℕ) → last < ts → is_marked cmp marks key ts ≡ false) → AllByRecursion (λ ts. start < ts → is_marked cmp marks key ts ≡ false) times
    all_after low last [] le a f = tt
    all_after low last (ts ∷ times) le a f = ((λ lt. f ts (omega (arith, a.0))), all_after ts last times (omega (arith, a.0)) a.1 f)

    -- where the last commit clashes
    some_clashes : (low last : ℕ) (times : List ℕ) → Ascends low times → is_among times last ≡ true → start < last → is_marked cmp marks key last ≡ true → ((ts : ℕ) → last < ts → is_marked cmp marks key ts ≡ false) → last_clash cmp (commits_of marks times) start key ≡ Some last
    some_clashes low last [] a e lt m f = absurd (cc)
    some_clashes low last (ts ∷ times) a e lt m f = by (ts == last) refl e (λ g. some_clashes ts last times a.1 g lt m f)
      where
        loud : (ts : ℕ) → ts ≡ last → own ts ≡ Some last
        loud ts same = let over : nat_lt start ts ≡ true = grind (arith, common_steps) in let there : is_marked cmp marks key ts ≡ true = rw same m in rw (over, there) (ap Some same)

        by : (b : Bool) → (ts == last) ≡ b → (b || is_among times last) ≡ true → (is_among times last ≡ true → last_clash cmp (commits_of marks times) start key ≡ Some last) → or_else (last_clash cmp (commits_of marks times) start key) (own ts) ≡ Some last
        by true g h rest =
            let same : ts ≡ last = grind (arith, common_steps) in
            rw (none_clashes times (all_after ts last times (omega arith) a.1 f)) (loud ts same)
        by false g h rest = rw (rest h) refl

    -- the last clash of the commits that are seen
    pub last_seen : (low : ℕ) (times : List ℕ) (r : Option ℕ) → Ascends low times → ((ts : ℕ) → is_among times ts ≡ false → keys_at ts marks ≡ []) → IsLast cmp marks start key r → r ≡ last_clash cmp (commits_of marks times) start key
    last_seen low times None a known l = sym (none_clashes times (all_none times l))
    last_seen low times (Some t) a known l = sym (some_clashes low t times a (by (is_among times t) refl) l.0 l.1 l.2)
      where
        by : (b : Bool) → is_among times t ≡ b → b ≡ true
        by true e = refl
        by false e = absurd (let f : is_marked cmp marks key t ≡ false = not_marked cmp key t marks (known t e) in let g : is_marked cmp marks key t ≡ true = l.1 in cc)

-- the timestamps of the commits that are seen
pub times_seen : {K : Type 0} (marks : List (Mark K)) (times : List ℕ) → map ts_of (commits_of marks times) ≡ times
times_seen marks [] = refl
times_seen marks (ts ∷ times) = ap (λ us. ts ∷ us) (times_seen marks times)

-- commits with the same keys
same_commits : {K : Type 0} (xs ys : List (Mark K)) (times : List ℕ) → AllByRecursion (λ ts. keys_at ts xs ≡ keys_at ts ys) times → commits_of xs times ≡ commits_of ys times
same_commits xs ys [] a = refl
same_commits {K} xs ys (ts ∷ times) a = ap (λ (ks : List K). (record { ts = ts; keys = ks }) ∷ commits_of xs times) a.0 ∙ ap (λ (cs : List (Commit K)). (commit_at ys ts) ∷ cs) (same_commits xs ys times a.1)

module _ {K : Type 0} (ts : ℕ) (keys : List K) where
  -- the run of a new commit
  abbrev new_run : Layer K
  new_run = record { newest = ts; marks = map (marked_at ts) keys }

  -- it stands apart from the marks before it
  run_apart : (ms : List (Mark K)) → keys_at ts ms ≡ [] → IsApart ms (map (marked_at ts) keys)
  run_apart ms e other = by (ts == other) refl
    where
      by : (b : Bool) → (ts == other) ≡ b → (keys_at other ms ≡ []) ⊎ (keys_at other (map (marked_at ts) keys) ≡ [])
      by true f = let same : ts ≡ other = grind (arith, common_steps) in inl (subst (λ (n : ℕ). keys_at n ms ≡ []) same e)
      by false f = inr (keys_elsewhere ts other keys (λ same. absurd (let g : (ts == other) ≡ true = subst (λ (n : ℕ). (ts == n) ≡ true) same (same_number ts) in cc)))

  -- a run that stands apart from two lists stands apart from both together
  apart_both : (ms xs ys zs : List (Mark K)) → ((other : ℕ) → keys_at other zs ≡ keys_at other xs ++ keys_at other ys) → IsApart ms xs → IsApart ms ys → IsApart ms zs
  apart_both ms xs ys zs e a b other = by (a other) (b other)
    where
      by : (keys_at other ms ≡ []) ⊎ (keys_at other xs ≡ []) → (keys_at other ms ≡ []) ⊎ (keys_at other ys ≡ []) → (keys_at other ms ≡ []) ⊎ (keys_at other zs ≡ [])
      by (inl f) h = inl f
      by (inr f) (inl g) = inl g
      by (inr f) (inr g) = inr (e other ∙ rw (f, g) refl)

  pub layered_push : (runs : List (Layer K)) → IsLayered runs → keys_at ts (marks_of runs) ≡ [] → IsLayered (runs ++ new_run ∷ [])
  layered_push [] a e = ((λ other. inr refl), tt)
  layered_push (r ∷ runs) a e =
      let f : keys_at ts r.marks ++ keys_at ts (marks_of runs) ≡ [] = sym (keys_append ts r.marks (marks_of runs)) ∙ e in (
        apart_both r.marks (marks_of runs) (map (marked_at ts) keys) (marks_of (runs ++ new_run ∷ [])) (λ other. keys_of_runs other runs new_run) a.0 (run_apart r.marks (front_empty (keys_at ts r.marks) (keys_at ts (marks_of runs)) f)),
        layered_push runs a.1 (back_empty (keys_at ts r.marks) (keys_at ts (marks_of runs)) f),
      )

  -- the keys at a timestamp, with the new commit
  keys_before : (ms : List (Mark K)) (other : ℕ) → (ts ≡ other → ⊥) → keys_at other ms ++ keys_at other (map (marked_at ts) keys) ≡ keys_at other ms
  keys_before ms other ne = rw (keys_elsewhere ts other keys ne) (append_nil (keys_at other ms))

  -- what is seen after a commit is added
  pub pushed_seen : (runs new : List (Layer K)) (times : List ℕ) → AllByRecursion (λ time. time < ts) times → keys_at ts (marks_of runs) ≡ [] → HasSameKeys (marks_of new) (marks_of (runs ++ new_run ∷ [])) → commits_of (marks_of new) (times ++ ts ∷ []) ≡ commits_of (marks_of runs) times ++ (record { ts = ts; keys = keys }) ∷ []
  pushed_seen runs new times lt e same =
      map_push (commit_at (marks_of new)) times ts
      ∙ (ap (λ (ks : List K). commits_of (marks_of new) times ++ (record { ts = ts; keys = ks }) ∷ []) own_keys
      ∙ ap (λ (cs : List (Commit K)). cs ++ (record { ts = ts; keys = keys }) ∷ []) (same_commits (marks_of new) (marks_of runs) times (old_keys times lt)))
    where
      own_keys : keys_at ts (marks_of new) ≡ keys
      own_keys = same ts ∙ (keys_of_runs ts runs new_run ∙ rw e (keys_of_commit ts keys))

      old_keys : (us : List ℕ) → AllByRecursion (λ time. time < ts) us → AllByRecursion (λ time. keys_at time (marks_of new) ≡ keys_at time (marks_of runs)) us
      old_keys [] a = tt
      old_keys (u ∷ us) a = (same u ∙ (keys_of_runs u runs new_run ∙ keys_before (marks_of runs) u (λ f. omega (arith, a.0))), old_keys us a.1)

  -- every mark is still that of a commit
  pub pushed_known : (runs new : List (Layer K)) (times : List ℕ) → ((other : ℕ) → is_among times other ≡ false → keys_at other (marks_of runs) ≡ []) → HasSameKeys (marks_of new) (marks_of (runs ++ new_run ∷ [])) → (other : ℕ) → is_among (times ++ ts ∷ []) other ≡ false → keys_at other (marks_of new) ≡ []
  pushed_known runs new times known same other e =
      let f = split times e in
      same other ∙ (keys_of_runs other runs new_run ∙ (keys_before (marks_of runs) other (λ g. absurd (let h : (ts == other) ≡ true = subst (λ (n : ℕ). (ts == n) ≡ true) g (same_number ts) in let i : (ts == other) ≡ false = f.1 in cc)) ∙ known other f.0))
    where
      none : (b : Bool) → (b || false) ≡ false → b ≡ false
      none true e = e
      none false e = e

      first : (b c : Bool) → (b || c) ≡ false → b ≡ false
      first true c e = e
      first false c e = refl

      rest : (b c : Bool) → (b || c) ≡ false → c ≡ false
      rest true c e = absurd (cc)
      rest false c e = e

      split : (us : List ℕ) → is_among (us ++ ts ∷ []) other ≡ false → (is_among us other ≡ false) × ((ts == other) ≡ false)
      split [] e = (refl, none (ts == other) e)
      split (u ∷ us) e =
          let f = split us (rest (u == other) (is_among (us ++ ts ∷ []) other) e) in
          (rw (first (u == other) (is_among (us ++ ts ∷ []) other) e) f.0, f.1)

-- two runs become one
pub merged_keys : {K : Type 0} (rs : List (Layer K)) (a b m : Layer K) → ((ts : ℕ) → keys_at ts m.marks ≡ keys_at ts a.marks ++ keys_at ts b.marks) → HasSameKeys (marks_of (rs ++ m ∷ [])) (marks_of ((rs ++ a ∷ []) ++ b ∷ []))
merged_keys rs a b m e ts =
    keys_of_runs ts rs m
    ∙ (ap (λ ks. keys_at ts (marks_of rs) ++ ks) (e ts)
    ∙ (sym (append_assoc (keys_at ts (marks_of rs)) (keys_at ts a.marks) (keys_at ts b.marks))
    ∙ (ap (λ ks. ks ++ keys_at ts b.marks) (sym (keys_of_runs ts rs a)) ∙ sym (keys_of_runs ts (rs ++ a ∷ []) b))))

pub apart_last : {K : Type 0} (rs : List (Layer K)) (a b : Layer K) → IsLayered ((rs ++ a ∷ []) ++ b ∷ []) → IsApart a.marks b.marks
apart_last [] a b l = λ ts. subst (λ (ms : List (Mark _)). (keys_at ts a.marks ≡ []) ⊎ (keys_at ts ms ≡ [])) (append_nil b.marks) (l.0 ts)
apart_last (r ∷ rs) a b l = apart_last rs a b l.1

pub merged_layered : {K : Type 0} (rs : List (Layer K)) (a b m : Layer K) → ((ts : ℕ) → keys_at ts m.marks ≡ keys_at ts a.marks ++ keys_at ts b.marks) → IsLayered ((rs ++ a ∷ []) ++ b ∷ []) → IsLayered (rs ++ m ∷ [])
merged_layered [] a b m e l = ((λ ts. inr refl), tt)
merged_layered (r ∷ rs) a b m e l = ((λ ts. subst (λ ks. (keys_at ts r.marks ≡ []) ⊎ (ks ≡ [])) (sym (merged_keys rs a b m e ts)) (l.0 ts)), merged_layered rs a b m e l.1)

-- runs without the marks at or below a line
cut_marks : {K : Type 0} (line : ℕ) (rs : List (Layer K)) → marks_of (map (cut_above line) rs) ≡ marks_above line (marks_of rs)
cut_marks line [] = refl
cut_marks line (r ∷ rs) = ap (λ (ms : List (Mark _)). marks_above line r.marks ++ ms) (cut_marks line rs) ∙ sym (filter-append (λ m. nat_lt line m.ts) r.marks (marks_of rs))

pub cut_layered : {K : Type 0} (line : ℕ) (rs : List (Layer K)) → IsLayered rs → IsLayered (map (cut_above line) rs)
cut_layered line [] l = tt
cut_layered line (r ∷ rs) l = ((λ ts. by ts (l.0 ts)), cut_layered line rs l.1)
  where
    by : (ts : ℕ) → (keys_at ts r.marks ≡ []) ⊎ (keys_at ts (marks_of rs) ≡ []) → (keys_at ts (marks_above line r.marks) ≡ []) ⊎ (keys_at ts (marks_of (map (cut_above line) rs)) ≡ [])
    by ts (inl e) = inl (none_above_line line ts r.marks e)
    by ts (inr e) = inr (ap (λ (ms : List (Mark _)). keys_at ts ms) (cut_marks line rs) ∙ none_above_line line ts (marks_of rs) e)

-- what is seen above a line
pub cut_seen : {K : Type 0} (line : ℕ) (rs : List (Layer K)) (times : List ℕ) → commits_of (marks_of (map (cut_above line) rs)) (filter (λ ts. nat_lt line ts) times) ≡ above line (commits_of (marks_of rs) times)
cut_seen line rs [] = refl
cut_seen {K} line rs (ts ∷ times) = by (nat_lt line ts) refl (cut_seen line rs times)
  where
    by : (b : Bool) → nat_lt line ts ≡ b → commits_of (marks_of (map (cut_above line) rs)) (filter (λ ts. nat_lt line ts) times) ≡ above line (commits_of (marks_of rs) times) → commits_of (marks_of (map (cut_above line) rs)) (cond b (ts ∷ filter (λ ts. nat_lt line ts) times) (filter (λ ts. nat_lt line ts) times)) ≡ cond b (commit_at (marks_of rs) ts ∷ above line (commits_of (marks_of rs) times)) (above line (commits_of (marks_of rs) times))
    by true e rest =
        let lt : line < ts = grind (arith, common_steps) in
        let f : keys_at ts (marks_of (map (cut_above line) rs)) ≡ keys_at ts (marks_of rs) = ap (λ (ms : List (Mark K)). keys_at ts ms) (cut_marks line rs) ∙ keys_above line ts (marks_of rs) lt in
        ap (λ (ks : List K). (record { ts = ts; keys = ks }) ∷ commits_of (marks_of (map (cut_above line) rs)) (filter (λ ts. nat_lt line ts) times)) f ∙ ap (λ (cs : List (Commit K)). commit_at (marks_of rs) ts ∷ cs) rest
    by false e rest = rest

-- a line takes no timestamp above it away
still_among : (line ts : ℕ) (times : List ℕ) → line < ts → is_among (filter (λ n. nat_lt line n) times) ts ≡ false → is_among times ts ≡ false
still_among line ts [] lt e = refl
still_among line ts (u ∷ times) lt e = by (nat_lt line u) refl e (λ f. still_among line ts times lt f)
  where
    both : (b c : Bool) → (b || c) ≡ false → (c ≡ false → is_among times ts ≡ false) → (b || is_among times ts) ≡ false
    both true c f rest = absurd (cc)
    both false c f rest = rest f

    by : (b : Bool) → nat_lt line u ≡ b → is_among (cond b (u ∷ filter (λ n. nat_lt line n) times) (filter (λ n. nat_lt line n) times)) ts ≡ false → (is_among (filter (λ n. nat_lt line n) times) ts ≡ false → is_among times ts ≡ false) → ((u == ts) || is_among times ts) ≡ false
    by true f g rest = both (u == ts) (is_among (filter (λ n. nat_lt line n) times) ts) g rest
    by false f g rest = rw (not_there line ts u lt f) (rest g)

-- every mark above the line is still that of a commit
pub cut_known : {K : Type 0} (line : ℕ) (rs : List (Layer K)) (times : List ℕ) → ((ts : ℕ) → is_among times ts ≡ false → keys_at ts (marks_of rs) ≡ []) → (ts : ℕ) → is_among (filter (λ n. nat_lt line n) times) ts ≡ false → keys_at ts (marks_of (map (cut_above line) rs)) ≡ []
cut_known {K} line rs times known ts e = ap (λ (ms : List (Mark K)). keys_at ts ms) (cut_marks line rs) ∙ by (nat_lt line ts) refl
  where
    by : (b : Bool) → nat_lt line ts ≡ b → keys_at ts (marks_above line (marks_of rs)) ≡ []
    by true f = let lt : line < ts = grind (arith, common_steps) in none_above_line line ts (marks_of rs) (known ts (still_among line ts times lt e))
    by false f = let le : ts ≤ line = grind (arith, common_steps) in none_below_line line ts (marks_of rs) le

-- a loop over all elements that has come to the end
pub map_over_all : {X : Type 0} (f : X → X) (xs ys : List X) (i : ℕ) → i ≡ length xs → ys ≡ map f (take i xs) ++ drop i xs → ys ≡ map f xs
map_over_all f xs ys i end e = e ∙ (ap (λ (n : ℕ). map f (take n xs) ++ drop n xs) end ∙ rw (take-length xs, drop-length xs) (append_nil (map f xs)))
