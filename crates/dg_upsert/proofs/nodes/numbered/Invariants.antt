use Rattle.std.proofs.Common.{◌≡◌, map, take}
use Rattle.dg_nquad.specs.declared.mutation.Node.TheVariants as nodes
use Rattle.dg_upsert.proofs.nodes.numbered.Given as goal

abbrev pub invariant-loop-uid : goal.invariant-loop-uid
invariant-loop-uid l = l.all.items ≡ map nodes.Uid (take l.uid-index l.uids)
