use Rattle.std.proofs.Common.{◌≡◌, take}
use Rattle.dg_values.specs.Ascending.{without_one}
use Rattle.dg_values.specs.Order.{posting_cmp}
use Rattle.dg_edges.proofs.replaced.all_but.Given as goal

abbrev pub invariant-loop-object : goal.invariant-loop-object
invariant-loop-object l = l.others.items ≡ without_one posting_cmp (take l.object-index l.objects) l.one
