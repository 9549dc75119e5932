use Rattle.std.proofs.Common.{◌≡◌, drop}
use Rattle.dg_check.specs.RunOrder.{run_more}
use Rattle.dg_check.proofs.order.run_rest.Given as goal

-- the turns that are left lead to the whole
abbrev pub invariant-loop-turn : goal.invariant-loop-turn
invariant-loop-turn l = run_more (drop l._turn-index l.deps) l.deps l.ran ≡ run_more l.deps l.deps l.initial.ran
