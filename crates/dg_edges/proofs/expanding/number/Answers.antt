use Rattle.std.proofs.Common.{arith}
use Rattle.dg_edges.proofs.NameLaws.{place_within}
use Rattle.dg_edges.proofs.expanding.number.Goals as goal

pub overflow_add-result : goal.overflow_add-result
overflow_add-result c =
    let within = place_within c.args.names.now c.as_str.result.now in
    record { fits = omega (arith, within) }
