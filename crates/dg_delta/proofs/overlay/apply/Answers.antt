use Rattle.std.proofs.Common.{◌≡◌, ◌++◌, length, drop, arith, sym, ap, subst, ◌∙◌}
use Rattle.std.proofs.lemmas.Slice.{between_to_end}
use Rattle.std.specs.declared.cmp.Ordering.TheVariants.{Less, Equal, Greater}
use Rattle.dg_values.specs.Order.{posting_cmp}
use Rattle.dg_values.specs.Ascending.{Ascends}
use Rattle.dg_delta.specs.Ops.{posting_of, after_ops}
use Rattle.dg_delta.specs.Effects.{put_by_all}
use Rattle.dg_delta.proofs.OpLaws.{ascends_after}
use Rattle.dg_delta.proofs.Passes.{pass_less, pass_equal, pass_greater, pass_end_list, pass_end_ops}
use Rattle.dg_delta.proofs.overlay.apply.Goals as goal
use Rattle.dg_delta.proofs.overlay.apply.Goals.{In_ok-put_all, then-loop-at-test+else-done-ops, else-loop-at-test}

pub loop-at-preserved-in-Less : goal.loop-at-preserved-in-Less
loop-at-preserved-in-Less c =
    let less : posting_cmp (posting_of c.index-ops-done.result) c.index-postings-at.result ≡ Less = cc in
    record {
      at_in = c.loop-at.invariant.at_in;
      done_in = omega arith;
      so_far = rw c.in_ok-put_into-in-Less.ensures (pass_less c.args.postings.now c.args.ops.now c.requires.postings c.requires.ops c.loop-at.list.items _ c.loop-at.at c.loop-at.done c.index-postings-at.result c.index-ops-done.result c.loop-at-test.true c.if-done-ops.true c.index-postings-at.is c.index-ops-done.is c.loop-at.invariant.so_far less);
    }

pub loop-at-preserved-in-Equal : goal.loop-at-preserved-in-Equal
loop-at-preserved-in-Equal c =
    let equal : posting_cmp (posting_of c.index-ops-done.result) c.index-postings-at.result ≡ Equal = cc in
    record {
      at_in = omega arith;
      done_in = omega arith;
      so_far = rw c.in_ok-put_into-in-Equal.ensures (pass_equal c.args.postings.now c.args.ops.now c.requires.postings c.requires.ops c.loop-at.list.items _ c.loop-at.at c.loop-at.done c.index-postings-at.result c.index-ops-done.result c.loop-at-test.true c.if-done-ops.true c.index-postings-at.is c.index-ops-done.is c.loop-at.invariant.so_far equal);
    }

pub loop-at-preserved : goal.loop-at-preserved
loop-at-preserved c =
    let greater : posting_cmp (posting_of c.index-ops-done.result) c.index-postings-at.result ≡ Greater = cc in
    record {
      at_in = omega arith;
      done_in = c.loop-at.invariant.done_in;
      so_far = rw (c.in_ok-push-in-Greater.ensures.items, c.in_ok-copy-in-Greater.ensures) (pass_greater c.args.postings.now c.args.ops.now c.requires.postings c.requires.ops c.loop-at.list.items _ c.loop-at.at c.loop-at.done c.index-postings-at.result c.index-ops-done.result c.loop-at-test.true c.if-done-ops.true c.index-postings-at.is c.index-ops-done.is c.loop-at.invariant.so_far greater);
    }

is_after : (c : In_ok-put_all) → c.put_all.new.list.items ≡ after_ops c.args.postings.now c.args.ops.now
is_after c =
    let first : c.push_copies.new.list.items ≡ c.loop-at.list.items ++ drop c.loop-at.at c.args.postings.now = c.in_ok-push_copies.ensures ∙ ap (λ l. c.loop-at.list.items ++ l) (between_to_end c.args.postings.now c.loop-at.at (length c.args.postings.now) (omega arith)) in
    let second : c.put_all.new.list.items ≡ c.push_copies.new.list.items ++ put_by_all (drop c.loop-at.done c.args.ops.now) = c.in_ok-put_all.ensures ∙ ap (λ l. c.push_copies.new.list.items ++ put_by_all l) (between_to_end c.args.ops.now c.loop-at.done (length c.args.ops.now) (omega arith)) in
    let all = after_ops c.args.postings.now c.args.ops.now in
    second ∙ ap (λ l. l ++ put_by_all (drop c.loop-at.done c.args.ops.now)) first
    ∙ elim c.loop-at-test.branch [
      | then-loop-at-test+else-done-ops w ↦ pass_end_ops c.args.postings.now c.args.ops.now c.loop-at.list.items all c.loop-at.at c.loop-at.done (omega arith) c.loop-at.invariant.so_far
      | else-loop-at-test w ↦ pass_end_list c.args.postings.now c.args.ops.now c.loop-at.list.items all c.loop-at.at c.loop-at.done c.requires.ops (omega arith) c.loop-at.invariant.so_far
    ]

pub returns-clause-after : goal.returns-clause-after
returns-clause-after c = is_after c

pub returns-clause-ascend : goal.returns-clause-ascend
returns-clause-ascend c = subst (Ascends posting_cmp) (sym (is_after c)) (ascends_after c.args.ops.now c.args.postings.now c.requires.postings)
