use Rattle.std.proofs.Common.{◌≡◌, drop}
use Rattle.dg_shape.specs.Orders.{given_by, after_of}
use Rattle.dg_shape.proofs.paging.after_in.Given as goal

abbrev pub invariant-loop-arg : goal.invariant-loop-arg
invariant-loop-arg l = given_by after_of (drop l.arg-index l.args) ≡ given_by after_of l.args
