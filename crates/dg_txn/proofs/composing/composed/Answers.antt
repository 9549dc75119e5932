use Rattle.std.proofs.Common.{◌≡◌, ◌≤◌, List, ◌++◌, length, drop, ap, ◌∙◌, inl, inr, arith}
use mathlib.Core.Logic.{◌⊎◌}
use Rattle.std.proofs.lemmas.Slice.{between_to_end}
use Rattle.std.specs.declared.cmp.Ordering.TheVariants.{Less, Equal, Greater}
use Rattle.dg_delta.specs.declared.op.Op.{Op}
use Rattle.dg_delta.specs.Ops.{op_cmp}
use Rattle.dg_txn.proofs.ComposedOps.{passing_own, passing_step, passing_both, passing_ends}
use Rattle.dg_txn.proofs.composing.composed.Goals as goal
use Rattle.dg_txn.proofs.composing.composed.Goals.{then-loop-before-test+else-after-step, else-loop-before-test}

pub loop-before-preserved-in-Less : goal.loop-before-preserved-in-Less
loop-before-preserved-in-Less c =
    let less : op_cmp c.index-own-before.result c.index-step-after.result ≡ Less = cc in
    rw (c.in_ok-push-in-Less.ensures.items, c.in_ok-copy-in-Less.ensures) (passing_own c.args.own.now c.args.step.now c.loop-before.ops.items c.loop-before.before c.loop-before.after c.index-own-before.result c.index-step-after.result c.requires.own c.requires.step c.loop-before-test.true c.if-after-step.true c.index-own-before.is c.index-step-after.is c.loop-before.invariant less)

pub loop-before-preserved-in-Equal : goal.loop-before-preserved-in-Equal
loop-before-preserved-in-Equal c =
    let equal : op_cmp c.index-own-before.result c.index-step-after.result ≡ Equal = cc in
    passing_both c.args.own.now c.args.step.now c.loop-before.ops.items c.loop-before.before c.loop-before.after c.index-own-before.result c.index-step-after.result c.requires.own c.requires.step c.loop-before-test.true c.if-after-step.true c.index-own-before.is c.index-step-after.is c.loop-before.invariant equal

pub loop-before-preserved : goal.loop-before-preserved
loop-before-preserved c =
    let greater : op_cmp c.index-own-before.result c.index-step-after.result ≡ Greater = cc in
    rw (c.in_ok-push-in-Greater.ensures.items, c.in_ok-copy-in-Greater.ensures) (passing_step c.args.own.now c.args.step.now c.loop-before.ops.items c.loop-before.before c.loop-before.after c.index-own-before.result c.index-step-after.result c.requires.own c.requires.step c.loop-before-test.true c.if-after-step.true c.index-own-before.is c.index-step-after.is c.loop-before.invariant greater)

pub returns : goal.returns
returns c =
    let first : c.push_copies.new.out.items ≡ c.loop-before.ops.items ++ drop c.loop-before.before c.args.own.now = c.in_ok-push_copies.ensures ∙ ap (λ (l : List Op). c.loop-before.ops.items ++ l) (between_to_end c.args.own.now c.loop-before.before (length c.args.own.now) (omega arith)) in
    let second : c.push_copies-2.new.out.items ≡ c.push_copies.new.out.items ++ drop c.loop-before.after c.args.step.now = c.in_ok-push_copies-2.ensures ∙ ap (λ (l : List Op). c.push_copies.new.out.items ++ l) (between_to_end c.args.step.now c.loop-before.after (length c.args.step.now) (omega arith)) in
    let left : (length c.args.own.now ≤ c.loop-before.before) ⊎ (length c.args.step.now ≤ c.loop-before.after) =
    elim c.loop-before-test.branch [ then-loop-before-test+else-after-step w ↦ inr (omega (arith, w.if-after-step.false)) | else-loop-before-test w ↦ inl (omega (arith, w.loop-before-test.false)) ] in
    second ∙ (ap (λ (l : List Op). l ++ drop c.loop-before.after c.args.step.now) first ∙ passing_ends c.args.own.now c.args.step.now c.loop-before.ops.items c.loop-before.before c.loop-before.after c.requires.own c.requires.step left c.loop-before.invariant)
