use Rattle.std.proofs.Common.{◌<◌, true, length, take, ap, sym, ◌∙◌, arith}
use Rattle.std.specs.Prelude.{filter}
use Rattle.std.specs.List.{list_all}
use Rattle.dg_funcs.specs.Truth.{passes}
use Rattle.dg_funcs.proofs.PassLaws.{filter_same, filter_true, take_none, all_more}
use Rattle.dg_level.proofs.lists.passing_each.Goals as goal

pub loop-filter-init : goal.loop-filter-init
loop-filter-init g c =
    let graph = g.S.Snapshot.graph c.args.snap.now in
    let filters = c.args.filters.now in
    let vars = c.args.vars.now.variables in
    let nodes = c.args.nodes in
    sym (filter_same (λ n. list_all (passes graph vars n) (take 0 filters)) (λ n. true) nodes (λ n h. ap (list_all (passes graph vars n)) (take_none filters)) ∙ filter_true nodes)

pub loop-filter-preserved : goal.loop-filter-preserved
loop-filter-preserved g c =
    let graph = g.S.Snapshot.graph c.args.snap.now in
    let i = c.loop-filter.filter-index in
    let filters = c.args.filters.now in
    let vars = c.args.vars.now.variables in
    let lt : i < length filters = omega (arith, c.loop-filter-test.true) in
    c.in_ok-left.ensures ∙ ((λ j. filter (λ n. passes graph vars n (c.filter-item.is j)) (c.loop-filter.invariant j))
    ∙ all_more (λ n f. passes graph vars n f) filters i c.filter-item.result c.args.nodes lt)
