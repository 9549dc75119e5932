use Rattle.std.proofs.Common.{◌∙◌}
use Rattle.std.specs.Prelude.{filter}
use Rattle.std.specs.Ordering.{nat_cmp}
use Rattle.dg_values.specs.Ascending.{has}
use Rattle.dg_funcs.specs.Truth.{passes}
use Rattle.dg_funcs.proofs.FilterLaws.{alone}
use Rattle.dg_funcs.proofs.filtering.holds.Goals as goal

pub returns : goal.returns
returns g c =
    let graph = g.S.Snapshot.graph c.args.snap.now in
    let vars = c.args.vars.now.variables in
    let f = c.args.filter.now in
    let n = c.args.node in
    c.has.ensures ∙ ((λ i. has nat_cmp (c.in_ok-left.ensures i) n)
    ∙ ((λ i. has nat_cmp (filter (λ m. passes graph vars m f) (c.in_ok-one.ensures i)) n) ∙ alone (λ m. passes graph vars m f) n))
