use Rattle.std.proofs.Common.{◌≡◌, take, flat_map}
use Rattle.dg_check.specs.Vars.{nodes_named}
use Rattle.dg_funcs.proofs.variables.gathered.Given as goal

abbrev pub invariant-loop-name : goal.invariant-loop-name
invariant-loop-name l = l.found.items ≡ flat_map (nodes_named l.vars.variables) (take l.name-index l.names)
