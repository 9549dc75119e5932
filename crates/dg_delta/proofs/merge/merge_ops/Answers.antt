use Rattle.std.proofs.Common.{◌≡◌, ◌++◌, length, drop, arith, sym, ap, subst, ◌∙◌}
use Rattle.std.proofs.lemmas.Slice.{between_to_end}
use Rattle.std.specs.declared.cmp.Ordering.TheVariants.{Less, Greater}
use Rattle.dg_values.specs.Ascending.{Ascends}
use Rattle.dg_sets.proofs.Merges.{joined, ascends_joined, merge_less, merge_greater, merge_end_left, merge_end_right}
use Rattle.dg_delta.specs.Ops.{op_cmp}
use Rattle.dg_delta.specs.Effects.{AppliesBoth}
use Rattle.dg_delta.proofs.OpLaws.{op_total, joined_applies}
use Rattle.dg_delta.proofs.merge.merge_ops.Goals as goal
use Rattle.dg_delta.proofs.merge.merge_ops.Goals.{In_ok-push_copies-2, then-loop-old-test+else-new-newer, else-loop-old-test}

pub loop-old-preserved-in-Less : goal.loop-old-preserved-in-Less
loop-old-preserved-in-Less c =
    let less : op_cmp c.index-older-old.result c.index-newer-new.result ≡ Less = cc in
    record {
      old_in = omega arith;
      new_in = c.loop-old.invariant.new_in;
      so_far = rw (c.in_ok-push-in-Less.ensures.items, c.in_ok-copy-in-Less.ensures) (merge_less op_cmp op_total c.args.older.now c.args.newer.now c.requires.older c.loop-old.merged.items _ c.loop-old.old c.loop-old.new c.index-older-old.result c.index-newer-new.result c.loop-old-test.true c.if-new-newer.true c.index-older-old.is c.index-newer-new.is c.loop-old.invariant.so_far less);
    }

pub loop-old-preserved : goal.loop-old-preserved
loop-old-preserved c =
    let greater : op_cmp c.index-older-old.result c.index-newer-new.result ≡ Greater = cc in
    record {
      old_in = c.loop-old.invariant.old_in;
      new_in = omega arith;
      so_far = rw (c.in_ok-push-in-Greater.ensures.items, c.in_ok-copy-in-Greater.ensures) (merge_greater op_cmp op_total c.args.older.now c.args.newer.now c.requires.older c.loop-old.merged.items _ c.loop-old.old c.loop-old.new c.index-older-old.result c.index-newer-new.result c.loop-old-test.true c.if-new-newer.true c.index-older-old.is c.index-newer-new.is c.loop-old.invariant.so_far greater);
    }

is_joined : (c : In_ok-push_copies-2) → c.push_copies-2.new.out.items ≡ joined op_cmp c.args.older.now c.args.newer.now
is_joined c =
    let first : c.push_copies.new.out.items ≡ c.loop-old.merged.items ++ drop c.loop-old.old c.args.older.now = c.in_ok-push_copies.ensures ∙ ap (λ l. c.loop-old.merged.items ++ l) (between_to_end c.args.older.now c.loop-old.old (length c.args.older.now) (omega arith)) in
    let second : c.push_copies-2.new.out.items ≡ c.push_copies.new.out.items ++ drop c.loop-old.new c.args.newer.now = c.in_ok-push_copies-2.ensures ∙ ap (λ l. c.push_copies.new.out.items ++ l) (between_to_end c.args.newer.now c.loop-old.new (length c.args.newer.now) (omega arith)) in
    let all = joined op_cmp c.args.older.now c.args.newer.now in
    second ∙ ap (λ l. l ++ drop c.loop-old.new c.args.newer.now) first
    ∙ elim c.loop-old-test.branch [
      | then-loop-old-test+else-new-newer w ↦ merge_end_right op_cmp op_total c.args.older.now c.args.newer.now c.loop-old.merged.items all c.loop-old.old c.loop-old.new c.requires.older (omega arith) c.loop-old.invariant.so_far
      | else-loop-old-test w ↦ merge_end_left op_cmp op_total c.args.older.now c.args.newer.now c.loop-old.merged.items all c.loop-old.old c.loop-old.new (omega arith) c.loop-old.invariant.so_far
    ]

pub returns-clause-both : goal.returns-clause-both
returns-clause-both c = subst (AppliesBoth c.args.older.now c.args.newer.now) (sym (is_joined c)) (joined_applies c.args.older.now c.args.newer.now c.requires.older)

pub returns-clause-ascend : goal.returns-clause-ascend
returns-clause-ascend c = subst (Ascends op_cmp) (sym (is_joined c)) (ascends_joined op_cmp op_total c.args.older.now c.args.newer.now c.requires.newer)
