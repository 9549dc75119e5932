use Rattle.std.proofs.Common.{◌≡◌, ◌-◌, length, arith}
use Rattle.std.specs.Prelude.{min}
use Rattle.dg_base.proofs.Postings.{walked}
use Rattle.dg_base.proofs.base.Base.walk.Goals as goal

pub returns : goal.returns
returns c =
    let nodes = c.self.inside.nodes in
    let first : c.min-first.result ≡ min c.args.from (length nodes) = omega (arith, c.min-first.ensures, c.len-nodes.ensures) in
    let some : c.min-some.result ≡ min c.args.most (length nodes - c.min-first.result) = omega (arith, c.min-some.ensures, c.len-nodes.ensures) in
    rw (← c.self.view_is)
    (rw (c.in_ok-push_copies.ensures, c.in_ok-push_to.ensures, c.in_ok-items.ensures.items, c.part-values.ensures, c.as_slice.ensures.value)
    (walked nodes c.self.inside.values.items c.args.from c.args.most c.min-first.result c.min-some.result first some))
