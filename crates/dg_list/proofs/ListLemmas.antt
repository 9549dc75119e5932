-- Readings of posting lists.
use Rattle.std.proofs.Common.{◌≡◌, ◌∙◌, sym, ap, subst, refl, arith, ℕ, ◌<◌, ◌≤◌, List, [], ◌∷◌, ◌++◌, Bool, true, false, cond, inl, inr, length, take, drop, map}
use Rattle.std.specs.Prelude.{Option, Result, Ok, Err, IfOk, unwrap_or, nat_le, nat_lt, filter, ◌⊎◌, ◌&&◌}
use Rattle.std.proofs.lemmas.Bool.Decides.{nat_tests}
use Rattle.std.proofs.lemmas.List.{take_all}
use Rattle.dg_values.specs.Ascending.{Ascends, has}
use Rattle.dg_values.specs.Order.{posting_cmp}
use Rattle.dg_values.specs.declared.value.Posting.{Posting}
use Rattle.dg_delta.specs.Ops.{after_ops}
use Rattle.dg_values.proofs.OrderLaws.{posting_order}
use Rattle.dg_sets.proofs.Sets.{one_list}
use Rattle.dg_delta.specs.Effects.{Says, put_by_all}
use Rattle.dg_delta.specs.Ops.{op_cmp}
use Rattle.dg_delta.proofs.OpLaws.{ascends_after, has_after}
use Rattle.dg_delta.proofs.Passes.{after_none}
use Rattle.dg_delta.specs.Layers.{Changes}
use Rattle.dg_delta.specs.declared.op.Op.{Op}
use Rattle.dg_list.specs.Lists.{ops_upto, Layered, after_layers, reading, newest_of, newest_ts, IsStacked, IsSound, with_layer}
use Rattle.dg_list.specs.Gathered.{there_by, stand_on_puts, stand_on_all}
use Rattle.dg_list.specs.Links.{Replace}
use Rattle.dg_list.proofs.OpLemmas.{said_in_turn, said_joined, IsCovered, nothing_covered, covered_replaced, puts_covered, all_covered, covered_if_nothing_left, puts_from_covered}
use Rattle.dg_list.proofs.Counted.{base_told}

le_true : (m n : ℕ) → m ≤ n → nat_le m n ≡ true
le_true m n h = grind (arith, nat_tests)

le_false : (m n : ℕ) → n < m → nat_le m n ≡ false
le_false m n h = grind (arith, nat_tests)

lt_true : (m n : ℕ) → m < n → nat_lt m n ≡ true
lt_true m n h = grind (arith, nat_tests)

lt_false : (m n : ℕ) → n ≤ m → nat_lt m n ≡ false
lt_false m n h = grind (arith, nat_tests)

pub by_bool : {P : Type 0} (b : Bool) → (b ≡ true → P) → (b ≡ false → P) → P
by_bool true f g = f refl
by_bool false f g = g refl

pub ascends_after_layers : (ts : ℕ) (ls : List Changes) (base : List Posting) → Ascends posting_cmp base → Ascends posting_cmp (after_layers ts ls base)
ascends_after_layers ts [] base s = s
ascends_after_layers ts (l ∷ ls) base s = ascends_after (ops_upto ts l) (after_layers ts ls base) (ascends_after_layers ts ls base s)

-- a top layer that counts, and one that doesn't
pub read_over : (ts : ℕ) (l : Changes) (ls : List Changes) (base : List Posting) → l.ts ≤ ts → after_layers ts (l ∷ ls) base ≡ after_ops (after_layers ts ls base) l.ops
read_over ts l ls base h = ap (λ b. after_ops (after_layers ts ls base) (cond b l.ops [])) (le_true l.ts ts h)

pub read_past : (ts : ℕ) (l : Changes) (ls : List Changes) (base : List Posting) → ts < l.ts → after_layers ts (l ∷ ls) base ≡ after_layers ts ls base
read_past ts l ls base h = ap (λ b. after_ops (after_layers ts ls base) (cond b l.ops [])) (le_false l.ts ts h)

-- ---- layers all at or below a timestamp

pub none_newer : (b u : ℕ) (ls : List Changes) → IsStacked b ls → newest_of b ls ≤ u → filter (λ l. nat_lt u l.ts) ls ≡ []
none_newer b u [] s h = refl
none_newer b u (l ∷ ls) s h = ap (λ t. cond t (l ∷ filter (λ k. nat_lt u k.ts) ls) (filter (λ k. nat_lt u k.ts) ls)) (lt_false u l.ts h) ∙ none_newer b u ls s.1 (omega arith)

pub all_read : (b u ts : ℕ) (ls : List Changes) (base : List Posting) → IsStacked b ls → newest_of b ls ≤ u → u ≤ ts → after_layers u ls base ≡ after_layers ts ls base
all_read b u ts [] base s h k = refl
all_read b u ts (l ∷ ls) base s h k =
    read_over u l ls base h ∙ ap (λ xs. after_ops xs l.ops) (all_read b u ts ls base s.1 (omega arith) k) ∙ sym (read_over ts l ls base (omega arith))

pub newest_filtered : (b u n : ℕ) (ls : List Changes) → IsStacked b ls → newest_of b ls < n → u < n → newest_of u (filter (λ l. nat_lt u l.ts) ls) < n
newest_filtered b u n [] s h k = k
newest_filtered b u n (l ∷ ls) s h k =
    by_bool (nat_lt u l.ts)
    (λ e. subst (λ t. newest_of u (cond t (l ∷ filter (λ j. nat_lt u j.ts) ls) (filter (λ j. nat_lt u j.ts) ls)) < n) (sym e) h)
    (λ e. subst (λ t. newest_of u (cond t (l ∷ filter (λ j. nat_lt u j.ts) ls) (filter (λ j. nat_lt u j.ts) ls)) < n) (sym e) (newest_filtered b u n ls s.1 (omega arith) k))

-- ---- the layers above a timestamp

above_next : (u : ℕ) (l : Changes) (ls : List Changes) → u < l.ts → filter (λ k. nat_lt u k.ts) (l ∷ ls) ≡ l ∷ filter (λ k. nat_lt u k.ts) ls
above_next u l ls h = ap (λ b. cond b (l ∷ filter (λ k. nat_lt u k.ts) ls) (filter (λ k. nat_lt u k.ts) ls)) (lt_true u l.ts h)

is_above : (m n : ℕ) → nat_lt m n ≡ true → m < n
is_above m n h = grind (arith, nat_tests)

is_upto : (m n : ℕ) → nat_lt m n ≡ false → n ≤ m
is_upto m n h = grind (arith, nat_tests)

pub above_stacked : (b u : ℕ) (ls : List Changes) → IsStacked b ls → IsStacked u (filter (λ l. nat_lt u l.ts) ls)
above_stacked b u [] s = tt
above_stacked b u (l ∷ ls) s =
    by_bool (nat_lt u l.ts)
    (λ e. subst (λ t. IsStacked u (cond t (l ∷ filter (λ j. nat_lt u j.ts) ls) (filter (λ j. nat_lt u j.ts) ls))) (sym e) (newest_filtered b u l.ts ls s.1 s.0 (is_above u l.ts e), above_stacked b u ls s.1))
    (λ e. subst (λ t. IsStacked u (cond t (l ∷ filter (λ j. nat_lt u j.ts) ls) (filter (λ j. nat_lt u j.ts) ls))) (sym e) (above_stacked b u ls s.1))

-- a layer is above those behind it
pub next_stacked : (b : ℕ) (front : List Changes) (l : Changes) (ls : List Changes) → IsStacked b (front ++ l ∷ ls) → newest_of b ls < l.ts
next_stacked b [] l ls s = s.0
next_stacked b (f ∷ fs) l ls s = next_stacked b fs l ls s.1

-- what was read up to a timestamp, under the layers above it
pub read_rolled : (b u ts : ℕ) (ls : List Changes) (base : List Posting) → IsStacked b ls → u ≤ ts → after_layers ts (filter (λ l. nat_lt u l.ts) ls) (after_layers u ls base) ≡ after_layers ts ls base
read_rolled b u ts [] base s h = refl
read_rolled b u ts (l ∷ ls) base s h =
    by_bool (nat_lt u l.ts)
    (λ e.
    let above = is_above u l.ts e in
    (λ i. after_layers ts (above_next u l ls above i) (read_past u l ls base above i))
    ∙ ap (λ xs. after_ops xs (ops_upto ts l)) (read_rolled b u ts ls base s.1 h))
    (λ e.
    let upto = is_upto u l.ts e in
    ap (λ ks. after_layers ts ks (after_layers u (l ∷ ls) base)) (none_newer b u (l ∷ ls) s upto)
    ∙ all_read b u ts (l ∷ ls) base s upto h)

-- ---- one layer down: the list v is the layer l over the list w

module _ (v w : Layered) (l : Changes) (is : with_layer w l ≡ v) (sound : IsSound v) (ts : ℕ) where
  below_ascends : Ascends posting_cmp (reading w ts)
  below_ascends = ascends_after_layers ts w.layers w.base (subst (λ x. Ascends posting_cmp x.base) (sym is) sound.base)

  pub has_down : (q : Posting) (answer : Option Bool) → Says (ops_upto ts l) q answer → has posting_cmp (reading v ts) q ≡ unwrap_or answer (has posting_cmp (reading w ts) q)
  has_down q answer says = ap (λ x. has posting_cmp (reading x ts) q) (sym is) ∙ says (reading w ts) below_ascends

  layer_above : newest_ts w < l.ts
  layer_above = (subst IsSound (sym is) sound).layers.0

  over_read : l.ts ≤ ts → reading v ts ≡ after_ops (reading w ts) l.ops
  over_read h = ap (λ x. reading x ts) (sym is) ∙ read_over ts l w.layers w.base h

  -- the layer is gathered
  pub gathered_down : (ops : List Op) → Ascends op_cmp (ops_upto ts l) → (q : Posting) → there_by ops q (has posting_cmp (reading v ts) q) ≡ there_by (ops ++ ops_upto ts l) q (has posting_cmp (reading w ts) q)
  gathered_down ops a q =
      ap (there_by ops q) (ap (λ x. has posting_cmp (reading x ts) q) (sym is) ∙ has_after (ops_upto ts l) (reading w ts) q ∙ said_in_turn (ops_upto ts l) q (has posting_cmp (reading w ts) q) a)
      ∙ sym (said_joined ops (ops_upto ts l) q (has posting_cmp (reading w ts) q))

  -- nothing below it counts
  pub alone_read : l.ts ≤ ts → Replace l.ops w → reading v ts ≡ after_ops [] l.ops
  alone_read h r = let above = layer_above in over_read h ∙ r ts (omega arith)

  pub gathered_alone : (ops : List Op) → Ascends op_cmp l.ops → l.ts ≤ ts → Replace l.ops w → (q : Posting) → there_by ops q (has posting_cmp (reading v ts) q) ≡ there_by (ops ++ l.ops) q false
  gathered_alone ops a h r q =
      ap (λ xs. there_by ops q (has posting_cmp xs q)) (alone_read h r)
      ∙ ap (there_by ops q) (has_after l.ops [] q ∙ said_in_turn l.ops q false a)
      ∙ sym (said_joined ops l.ops q false)

  -- operations that stand on all that is below it, and on all that it puts in
  pub covered_down : (ops : List Op) → l.ts ≤ ts → stand_on_puts ops l.ops ≡ true → IsCovered ops (reading w ts) → IsCovered ops (reading v ts)
  covered_down ops h p c = subst (IsCovered ops) (sym (over_read h)) (puts_covered ops l.ops (reading w ts) p c)

  pub covered_alone : (ops : List Op) → l.ts ≤ ts → stand_on_puts ops l.ops ≡ true → Replace l.ops w → IsCovered ops (reading v ts)
  covered_alone ops h p r = subst (IsCovered ops) (sym (alone_read h r)) (puts_covered ops l.ops [] p (nothing_covered ops))

  -- and where they leave nothing of it, they stand on all that it puts in where it stands alone
  pub alone_exact : (ops : List Op) → newest_ts v ≤ ts → Ascends op_cmp l.ops → Replace l.ops w → Replace ops v → stand_on_puts ops l.ops ≡ true
  alone_exact ops h a r replaced =
      let whole : reading v ts ≡ put_by_all l.ops = alone_read (subst (λ (x : Layered). newest_ts x ≤ ts) (sym is) h) r ∙ after_none l.ops a in
      puts_from_covered ops l.ops (subst (IsCovered ops) whole (covered_if_nothing_left ops (reading v ts) (replaced ts h)))

  -- what is below it
  pub sound_below : IsSound w
  sound_below = let whole : IsSound (with_layer w l) = subst IsSound (sym is) sound in record { base = whole.base; layers = whole.layers.1 }

  pub top_upto : (u : ℕ) → newest_ts v ≤ u → l.ts ≤ u
  top_upto u h = subst (λ (x : Layered). newest_ts x ≤ u) (sym is) h

  pub below_upto : (u : ℕ) → newest_ts v ≤ u → newest_ts w ≤ u
  below_upto u h = let top = top_upto u h in let above = layer_above in omega arith

-- operations that stand on all of a list from a timestamp on
abbrev pub IsCoveredFrom : List Op → ℕ → Layered → Type 0
IsCoveredFrom ops from list = (ts : ℕ) → from ≤ ts → IsCovered ops (reading list ts)

pub covered_replace : (ops : List Op) (list : Layered) → IsSound list → IsCoveredFrom ops (newest_ts list) list → Replace ops list
covered_replace ops list sound c ts h = covered_replaced ops (reading list ts) (ascends_after_layers ts list.layers list.base sound.base) (c ts h)

pub read_gathered : (list : Layered) (ts : ℕ) (items : List Posting) → IsSound list → Ascends posting_cmp items → ((q : Posting) → has posting_cmp items q ≡ has posting_cmp (reading list ts) q) → items ≡ reading list ts
read_gathered list ts items sound a f = one_list posting_cmp posting_order items (reading list ts) a (ascends_after_layers ts list.layers list.base sound.base) f

pub base_covered : (ops : List Op) (list : Layered) (base : List Posting) (ts : ℕ) (from : ℕ) → record { base_ts = ts; base = base; layers = [] } ≡ list → stand_on_all ops base ≡ true → IsCoveredFrom ops from list
base_covered ops list base ts from is all at h = subst (λ (x : Layered). IsCovered ops (reading x at)) is (all_covered ops base all)

-- operations that leave nothing of a base alone stand on all of it
pub base_exact : (ops : List Op) (list : Layered) (base : List Posting) (ts : ℕ) → record { base_ts = ts; base = base; layers = [] } ≡ list → Ascends op_cmp ops → IsSound list → Replace ops list → (nat_le (length base) (length ops) && stand_on_all ops base) ≡ true
base_exact ops list base ts is a sound replaced =
    let r : Replace ops (record { base_ts = ts; base = base; layers = [] }) = subst (Replace ops) (sym is) replaced in
    let whole : IsSound (record { base_ts = ts; base = base; layers = [] }) = subst IsSound (sym is) sound in
    base_told ops base a whole.base (covered_if_nothing_left ops base (r ts (omega arith)))

pub if_ok_both : {T E : Type 0} (r : Result T E) (P Q R : T → Type 0) → ((x : T) → P x → Q x → R x) → IfOk r P → IfOk r Q → IfOk r R
if_ok_both (Ok x) P Q R f p q = f x p q
if_ok_both (Err e) P Q R f p q = p

pub either_true : (a b : Bool) → ((a ≡ true) ⊎ (a ≡ false × b ≡ false)) → b ≡ true → a ≡ true
either_true true b h k = refl
either_true false b (inl h) k = h
either_true false b (inr h) k = absurd (cc)

pub whole_walk : {X : Type 0} (n : ℕ) (xs walked : List X) → n ≡ length xs → walked ≡ take n (drop 0 xs) → walked ≡ xs
whole_walk n xs walked e is = is ∙ take_all n xs (omega (arith, e))

joined_one : {X Y : Type 0} (f : X → Y) (rest : List X) (x : X) (ys : List Y) → map f (rest ++ x ∷ []) ++ ys ≡ map f rest ++ f x ∷ ys
joined_one f [] x ys = refl
joined_one f (r ∷ rest) x ys = ap (λ zs. f r ∷ zs) (joined_one f rest x ys)

-- the last of them goes over to what stands behind
pub last_over : {X Y : Type 0} (f : X → Y) (all rest : List X) (x : X) (ys whole : List Y) → all ≡ rest ++ x ∷ [] → map f all ++ ys ≡ whole → whole ≡ map f rest ++ f x ∷ ys
last_over f all rest x ys whole e is = sym is ∙ ap (λ xs. map f xs ++ ys) e ∙ joined_one f rest x ys
