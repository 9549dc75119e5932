use Rattle.std.proofs.Common.{◌≡◌, ◌<◌, ◌+◌, ◌-◌, ◌*◌, ◌∙◌, ℕ, List, length, get_or, drop, subst, ap, arith, below_more}
use Rattle.std.specs.Prelude.{◌==◌, min}
use Rattle.std.proofs.lemmas.List.{drop_more}
use Rattle.dg_base.specs.Cursors.{StandsBefore}
use Rattle.dg_base.proofs.Finding.{counted, found}
use Rattle.dg_base.proofs.Held.{holds, few, parted_starts, stands_in, within_last, low_before, none_below, none_there, end_below, end_there}
use Rattle.dg_base.proofs.nodes.Nodes.place.Goals as goal

pub blocks_up_to-after-requires : goal.blocks_up_to-after-requires
blocks_up_to-after-requires c =
    let bytes = c.as_slice-bytes.result.now in
    let starts = c.as_slice-starts.result.now in
    let xs = c.args.self.now in
    let h = holds _ bytes _ starts c.self.inside.count xs c.self.invariant c.self.view_is c.as_slice-bytes.ensures.value c.as_slice-starts.ensures.value in
    parted_starts bytes starts c.self.inside.count xs h c.args.number

pub returns-then-after-eq0-clause-below : goal.returns-then-after-eq0-clause-below
returns-then-after-eq0-clause-below c =
    let bytes = c.as_slice-bytes.result.now in
    let starts = c.as_slice-starts.result.now in
    let xs = c.args.self.now in
    let h = holds _ bytes _ starts c.self.inside.count xs c.self.invariant c.self.view_is c.as_slice-bytes.ensures.value c.as_slice-starts.ensures.value in
    none_below bytes starts c.self.inside.count xs h c.args.number c.blocks_up_to-after.result c.blocks_up_to-after.ensures.within c.blocks_up_to-after.ensures.point c.if-after-eq0.true

pub returns-then-after-eq0-clause-there : goal.returns-then-after-eq0-clause-there
returns-then-after-eq0-clause-there c =
    let bytes = c.as_slice-bytes.result.now in
    let starts = c.as_slice-starts.result.now in
    let xs = c.args.self.now in
    let h = holds _ bytes _ starts c.self.inside.count xs c.self.invariant c.self.view_is c.as_slice-bytes.ensures.value c.as_slice-starts.ensures.value in
    none_there bytes starts c.self.inside.count xs h c.args.number c.blocks_up_to-after.result c.blocks_up_to-after.ensures.within c.blocks_up_to-after.ensures.point c.if-after-eq0.true

pub overflow_mul-from : goal.overflow_mul-from
overflow_mul-from c =
    let bytes = c.as_slice-bytes.result.now in
    let starts = c.as_slice-starts.result.now in
    let xs = c.args.self.now in
    let h = holds _ bytes _ starts c.self.inside.count xs c.self.invariant c.self.view_is c.as_slice-bytes.ensures.value c.as_slice-starts.ensures.value in
    let some : 0 < c.blocks_up_to-after.result = omega (arith, c.if-after-eq0.false) in
    omega (arith, few bytes starts c.self.inside.count xs h, within_last bytes starts c.self.inside.count xs h c.args.number c.blocks_up_to-after.result c.blocks_up_to-after.ensures.within c.blocks_up_to-after.ensures.point some)

pub overflow_sub-self-inside : goal.overflow_sub-self-inside
overflow_sub-self-inside c =
    let bytes = c.as_slice-bytes.result.now in
    let starts = c.as_slice-starts.result.now in
    let xs = c.args.self.now in
    let h = holds _ bytes _ starts c.self.inside.count xs c.self.invariant c.self.view_is c.as_slice-bytes.ensures.value c.as_slice-starts.ensures.value in
    let some : 0 < c.blocks_up_to-after.result = omega (arith, c.if-after-eq0.false) in
    omega (arith, h.counts, within_last bytes starts c.self.inside.count xs h c.args.number c.blocks_up_to-after.result c.blocks_up_to-after.ensures.within c.blocks_up_to-after.ensures.point some)

pub overflow_add-end : goal.overflow_add-end
overflow_add-end c =
    let bytes = c.as_slice-bytes.result.now in
    let starts = c.as_slice-starts.result.now in
    let xs = c.args.self.now in
    let h = holds _ bytes _ starts c.self.inside.count xs c.self.invariant c.self.view_is c.as_slice-bytes.ensures.value c.as_slice-starts.ensures.value in
    let some : 0 < c.blocks_up_to-after.result = omega (arith, c.if-after-eq0.false) in
    omega (arith, h.counts, within_last bytes starts c.self.inside.count xs h c.args.number c.blocks_up_to-after.result c.blocks_up_to-after.ensures.within c.blocks_up_to-after.ensures.point some, c.min.ensures, few bytes starts c.self.inside.count xs h)

pub loop-below-init : goal.loop-below-init
loop-below-init c =
    let bytes = c.as_slice-bytes.result.now in
    let starts = c.as_slice-starts.result.now in
    let xs = c.args.self.now in
    let h = holds _ bytes _ starts c.self.inside.count xs c.self.invariant c.self.view_is c.as_slice-bytes.ensures.value c.as_slice-starts.ensures.value in
    let some : 0 < c.blocks_up_to-after.result = omega (arith, c.if-after-eq0.false) in
    record {
      stands = stands_in bytes starts c.self.inside.count xs h (c.blocks_up_to-after.result - 1) _ c.new-cursor.result (omega (arith, c.blocks_up_to-after.ensures.within)) c.new-cursor.ensures.last c.new-cursor.ensures.at c.new-cursor.ensures.room;
      low = low_before bytes starts c.self.inside.count xs h c.args.number c.blocks_up_to-after.result c.blocks_up_to-after.ensures.within c.blocks_up_to-after.ensures.point some;
    }

pub next-cursor-requires : goal.next-cursor-requires
next-cursor-requires c =
    let bytes = c.as_slice-bytes.result.now in
    let starts = c.as_slice-starts.result.now in
    let xs = c.args.self.now in
    let h = holds _ bytes _ starts c.self.inside.count xs c.self.invariant c.self.view_is c.as_slice-bytes.ensures.value c.as_slice-starts.ensures.value in
    let below = c.loop-below.below in
    let within : below < length xs = omega (arith, h.counts) in
    let stands = subst (λ (ys : List ℕ). StandsBefore bytes c.loop-below.cursor ys) (drop_more xs below 0 within) c.loop-below.invariant.stands in
    (get_or xs below 0, drop (below + 1) xs, stands)

pub returns-then-number-cursor-clause-below : goal.returns-then-number-cursor-clause-below
returns-then-number-cursor-clause-below c =
    let bytes = c.as_slice-bytes.result.now in
    let starts = c.as_slice-starts.result.now in
    let xs = c.args.self.now in
    let h = holds _ bytes _ starts c.self.inside.count xs c.self.invariant c.self.view_is c.as_slice-bytes.ensures.value c.as_slice-starts.ensures.value in
    let below = c.loop-below.below in
    let within : below < length xs = omega (arith, h.counts) in
    let stands = subst (λ (ys : List ℕ). StandsBefore bytes c.loop-below.cursor ys) (drop_more xs below 0 within) c.loop-below.invariant.stands in
    let next = c.next-cursor.ensures (get_or xs below 0) (drop (below + 1) xs) stands in
    counted xs c.args.number below h.ascend (omega arith) c.loop-below.invariant.low (λ l. omega (arith, next.0, c.if-number-cursor.true))

pub returns-then-number-cursor-clause-there : goal.returns-then-number-cursor-clause-there
returns-then-number-cursor-clause-there c =
    let bytes = c.as_slice-bytes.result.now in
    let starts = c.as_slice-starts.result.now in
    let xs = c.args.self.now in
    let h = holds _ bytes _ starts c.self.inside.count xs c.self.invariant c.self.view_is c.as_slice-bytes.ensures.value c.as_slice-starts.ensures.value in
    let below = c.loop-below.below in
    let within : below < length xs = omega (arith, h.counts) in
    let stands = subst (λ (ys : List ℕ). StandsBefore bytes c.loop-below.cursor ys) (drop_more xs below 0 within) c.loop-below.invariant.stands in
    let next = c.next-cursor.ensures (get_or xs below 0) (drop (below + 1) xs) stands in
    ap (λ (n : ℕ). n == c.args.number) next.0 ∙ found xs c.args.number below h.ascend (omega arith) c.loop-below.invariant.low (λ l. omega (arith, next.0, c.if-number-cursor.true)) within

pub loop-below-preserved : goal.loop-below-preserved
loop-below-preserved c =
    let bytes = c.as_slice-bytes.result.now in
    let starts = c.as_slice-starts.result.now in
    let xs = c.args.self.now in
    let h = holds _ bytes _ starts c.self.inside.count xs c.self.invariant c.self.view_is c.as_slice-bytes.ensures.value c.as_slice-starts.ensures.value in
    let below = c.loop-below.below in
    let within : below < length xs = omega (arith, h.counts) in
    let stands = subst (λ (ys : List ℕ). StandsBefore bytes c.loop-below.cursor ys) (drop_more xs below 0 within) c.loop-below.invariant.stands in
    let next = c.next-cursor.ensures (get_or xs below 0) (drop (below + 1) xs) stands in
    record {
      stands = next.1;
      low = below_more _ _ c.loop-below.invariant.low (omega (arith, next.0, c.if-number-cursor.false));
    }

pub returns-clause-below : goal.returns-clause-below
returns-clause-below c =
    let bytes = c.as_slice-bytes.result.now in
    let starts = c.as_slice-starts.result.now in
    let xs = c.args.self.now in
    let h = holds _ bytes _ starts c.self.inside.count xs c.self.invariant c.self.view_is c.as_slice-bytes.ensures.value c.as_slice-starts.ensures.value in
    let some : 0 < c.blocks_up_to-after.result = omega (arith, c.if-after-eq0.false) in
    let end = 128 * (c.blocks_up_to-after.result - 1) + c.min.result in
    let low : (j : ℕ) → j < end → get_or xs j 0 < c.args.number = λ j l. c.loop-below.invariant.low j (omega arith) in
    let is : end ≡ 128 * (c.blocks_up_to-after.result - 1) + min 128 (c.self.inside.count - 128 * (c.blocks_up_to-after.result - 1)) = omega (arith, c.min.ensures) in
    end_below bytes starts c.self.inside.count xs h c.args.number c.blocks_up_to-after.result c.blocks_up_to-after.ensures.within c.blocks_up_to-after.ensures.point some end is low

pub returns-clause-there : goal.returns-clause-there
returns-clause-there c =
    let bytes = c.as_slice-bytes.result.now in
    let starts = c.as_slice-starts.result.now in
    let xs = c.args.self.now in
    let h = holds _ bytes _ starts c.self.inside.count xs c.self.invariant c.self.view_is c.as_slice-bytes.ensures.value c.as_slice-starts.ensures.value in
    let some : 0 < c.blocks_up_to-after.result = omega (arith, c.if-after-eq0.false) in
    let end = 128 * (c.blocks_up_to-after.result - 1) + c.min.result in
    let low : (j : ℕ) → j < end → get_or xs j 0 < c.args.number = λ j l. c.loop-below.invariant.low j (omega arith) in
    let is : end ≡ 128 * (c.blocks_up_to-after.result - 1) + min 128 (c.self.inside.count - 128 * (c.blocks_up_to-after.result - 1)) = omega (arith, c.min.ensures) in
    end_there bytes starts c.self.inside.count xs h c.args.number c.blocks_up_to-after.result c.blocks_up_to-after.ensures.within c.blocks_up_to-after.ensures.point some end is low
