use Rattle.std.proofs.Common.{◌≡◌, ◌++◌, ◌∙◌, length, get_or, drop, ap, arith}
use Rattle.std.proofs.lemmas.Slice.{between_to_end}
use Rattle.std.specs.declared.cmp.Ordering.TheVariants.{Less, Greater}
use Rattle.std.specs.Ordering.{nat_cmp}
use Rattle.std.specs.Cmp.{nat_cmp_total}
use Rattle.dg_sets.proofs.Merges.{merge_less, merge_greater, merge_end_left, merge_end_right}
use Rattle.dg_uids.specs.Sets.{either}
use Rattle.dg_uids.proofs.Filters.{at_place}
use Rattle.dg_uids.proofs.unions.merged.Goals as goal
use Rattle.dg_uids.proofs.unions.merged.Goals.{then-loop-beside-test+else-at-uids, else-loop-beside-test}

pub loop-beside-preserved-in-Less : goal.loop-beside-preserved-in-Less
loop-beside-preserved-in-Less c =
    let xs = c.args.others.now in
    let ys = c.args.uids.now in
    let i = c.loop-beside.beside in
    let k = c.loop-beside.at in
    let less : nat_cmp (get_or xs i 0) (get_or ys k 0) ≡ Less = cc in
    record {
      at_in = c.loop-beside.invariant.at_in;
      beside_in = omega arith;
      so_far = rw c.in_ok-push-in-Less.ensures.items (merge_less nat_cmp nat_cmp_total xs ys c.requires.others c.loop-beside.list.items (either ys xs) i k (get_or xs i 0) (get_or ys k 0) c.loop-beside-test.true c.if-at-uids.true (at_place xs i c.loop-beside-test.true) (at_place ys k c.if-at-uids.true) c.loop-beside.invariant.so_far less);
    }

pub loop-beside-preserved : goal.loop-beside-preserved
loop-beside-preserved c =
    let xs = c.args.others.now in
    let ys = c.args.uids.now in
    let i = c.loop-beside.beside in
    let k = c.loop-beside.at in
    let greater : nat_cmp (get_or xs i 0) (get_or ys k 0) ≡ Greater = cc in
    record {
      at_in = omega arith;
      beside_in = c.loop-beside.invariant.beside_in;
      so_far = rw c.in_ok-push-in-Greater.ensures.items (merge_greater nat_cmp nat_cmp_total xs ys c.requires.others c.loop-beside.list.items (either ys xs) i k (get_or xs i 0) (get_or ys k 0) c.loop-beside-test.true c.if-at-uids.true (at_place xs i c.loop-beside-test.true) (at_place ys k c.if-at-uids.true) c.loop-beside.invariant.so_far greater);
    }

pub returns : goal.returns
returns c =
    let xs = c.args.others.now in
    let ys = c.args.uids.now in
    let i = c.loop-beside.beside in
    let k = c.loop-beside.at in
    let done = c.loop-beside.list.items in
    let first : c.extend_from_slice.new.self.items ≡ done ++ drop i xs = c.in_ok-extend_from_slice.ensures.items ∙ ap (λ zs. done ++ zs) (between_to_end xs i (length xs) (omega arith)) in
    let second : c.extend_from_slice-2.new.self.items ≡ c.extend_from_slice.new.self.items ++ drop k ys = c.in_ok-extend_from_slice-2.ensures.items ∙ ap (λ zs. c.extend_from_slice.new.self.items ++ zs) (between_to_end ys k (length ys) (omega arith)) in
    second ∙ ap (λ zs. zs ++ drop k ys) first
    ∙ elim c.loop-beside-test.branch [
      | then-loop-beside-test+else-at-uids w ↦ merge_end_right nat_cmp nat_cmp_total xs ys done (either ys xs) i k c.requires.others (omega arith) c.loop-beside.invariant.so_far
      | else-loop-beside-test w ↦ merge_end_left nat_cmp nat_cmp_total xs ys done (either ys xs) i k (omega arith) c.loop-beside.invariant.so_far
    ]
