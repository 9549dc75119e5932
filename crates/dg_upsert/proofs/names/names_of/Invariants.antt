use Rattle.std.proofs.Common.{◌≡◌, take}
use Rattle.dg_upsert.proofs.names.names_of.Given as goal

abbrev pub invariant-loop-name : goal.invariant-loop-name
invariant-loop-name l = l.found ≡ take l.name-index l.names
