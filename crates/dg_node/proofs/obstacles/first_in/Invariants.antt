use Rattle.std.proofs.Common.{◌≡◌, drop}
use Rattle.dg_node.specs.Alters.{first_with_data}
use Rattle.dg_node.proofs.obstacles.first_in.Given as goal

-- what is left decides
abbrev pub invariant-loop-definition : goal.invariant-loop-definition
invariant-loop-definition g l =
    first_with_data l.present.schema l.present.graph l.fn.definitions ≡ first_with_data l.present.schema l.present.graph (drop l.definition-index l.fn.definitions)
