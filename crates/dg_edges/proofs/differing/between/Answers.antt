use Rattle.std.proofs.Common.{◌-◌, ◌≤◌, [], ◌∷◌, ◌++◌, length, map, take, drop, sym, ◌∙◌, inl, inr, arith}
use mathlib.Core.Logic.{◌⊎◌}
use Rattle.dg_delta.specs.declared.op.Op.TheVariants as ops
use Rattle.dg_edges.proofs.BetweenLaws.{passing_lost, passing_gained, passing_kept, passing_ends}
use Rattle.dg_edges.proofs.differing.between.Goals as goal
use Rattle.dg_edges.proofs.differing.between.Goals.{then-loop-lost-test+else-gained-new, else-loop-lost-test}

pub loop-lost-preserved-in-Less : goal.loop-lost-preserved-in-Less
loop-lost-preserved-in-Less c =
    passing_lost c.args.old.now c.args.new.now c.loop-lost.found.items c.push.new.self.items c.loop-lost.lost c.loop-lost.gained c.index-old-lost.result c.index-new-gained.result c.requires.old_ascends c.requires.new_ascends c.loop-lost-test.true c.if-gained-new.true (sym c.index-old-lost.is) (sym c.index-new-gained.is) (sym c.compare.ensures ∙ c.in-Less.is) (c.in_ok-push-in-Less.ensures.items ∙ λ i. c.loop-lost.found.items ++ ops.Del (c.in_ok-copy-in-Less.ensures i) ∷ []) c.loop-lost.invariant

pub loop-lost-preserved-in-Equal : goal.loop-lost-preserved-in-Equal
loop-lost-preserved-in-Equal c =
    passing_kept c.args.old.now c.args.new.now c.loop-lost.found.items c.loop-lost.lost c.loop-lost.gained c.index-old-lost.result c.index-new-gained.result c.requires.old_ascends c.requires.new_ascends c.loop-lost-test.true c.if-gained-new.true (sym c.index-old-lost.is) (sym c.index-new-gained.is) (sym c.compare.ensures ∙ c.in-Equal.is) c.loop-lost.invariant

pub loop-lost-preserved : goal.loop-lost-preserved
loop-lost-preserved c =
    passing_gained c.args.old.now c.args.new.now c.loop-lost.found.items c.push-in-Greater.new.self.items c.loop-lost.lost c.loop-lost.gained c.index-old-lost.result c.index-new-gained.result c.requires.old_ascends c.requires.new_ascends c.loop-lost-test.true c.if-gained-new.true (sym c.index-old-lost.is) (sym c.index-new-gained.is) (sym c.compare.ensures ∙ c.in-Greater.is) (c.in_ok-push-in-Greater.ensures.items ∙ λ i. c.loop-lost.found.items ++ ops.Set (c.in_ok-copy-in-Greater.ensures i) ∷ []) c.loop-lost.invariant

pub returns : goal.returns
returns c =
    let p = c.in_ok-push_lost.ensures in
    let q = c.in_ok-push_gained.ensures in
    let left : (length c.args.old.now ≤ c.loop-lost.lost) ⊎ (length c.args.new.now ≤ c.loop-lost.gained) =
    elim c.loop-lost-test.branch [ then-loop-lost-test+else-gained-new w ↦ inr (omega (arith, w.if-gained-new.false)) | else-loop-lost-test w ↦ inl (omega (arith, w.loop-lost-test.false)) ] in
    q ∙ ((λ i. p i ++ map ops.Set (take (length c.args.new.now - c.loop-lost.gained) (drop c.loop-lost.gained c.args.new.now))) ∙ sym (passing_ends c.args.old.now c.args.new.now c.loop-lost.found.items c.loop-lost.lost c.loop-lost.gained c.requires.old_ascends c.requires.new_ascends left c.loop-lost.invariant))
