use Rattle.std.proofs.Common.{◌+◌, ◌∙◌, arith}
use Rattle.dg_zero.proofs.NewTablets.{lesser_within, fewest_next}
use Rattle.dg_zero.proofs.fresh.fewest.Goals as goal

pub loop-index-preserved : goal.loop-index-preserved
loop-index-preserved c =
    let before = c.loop-index.invariant in
    let lt = c.loop-index-test.true in
    let within = lesser_within c.args.counts.now (c.loop-index.index + 1) c.loop-index.best c.args.count (omega arith) (omega arith) before.least before.most in
    record {
      least = rw c.lesser-best.ensures within.0;
      most = rw c.lesser-best.ensures within.1;
      so_far = λ places e. c.lesser-best.ensures ∙ fewest_next c.args.count c.loop-index.index c.loop-index.best c.args.counts.now places lt before.least before.most e (before.so_far places e);
    }
