use Rattle.std.proofs.Common.{◌≡◌, take}
use Rattle.dg_check.specs.Plans.{keys_of}
use Rattle.dg_check.proofs.resolving.keys_of.Given as goal

abbrev pub invariant-loop-arg : goal.invariant-loop-arg
invariant-loop-arg l = l.keys.items ≡ keys_of l.variables (take l.arg-index l.args)
