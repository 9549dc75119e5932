use Rattle.std.proofs.Common.{◌≡◌, drop}
use Rattle.dg_shape.specs.Orders.{given_by, first_of}
use Rattle.dg_shape.proofs.paging.first_in.Given as goal

abbrev pub invariant-loop-arg : goal.invariant-loop-arg
invariant-loop-arg l = given_by first_of (drop l.arg-index l.args) ≡ given_by first_of l.args
