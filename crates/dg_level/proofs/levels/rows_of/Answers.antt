use Rattle.std.proofs.Common.{List, sym, subst}
use Rattle.dg_level.specs.declared.left.Left.{Left}
use Rattle.dg_level.specs.Left.{AreLeft}
use Rattle.dg_level.proofs.LeftLaws.{none_known}
use Rattle.dg_level.proofs.levels.rows_of.Goals as goal

pub returns-clause-rows : goal.returns-clause-rows
returns-clause-rows g c = λ ds lawful of_kind are.
    let schema = g.S.Snapshot.declared c.args.snap.now in
    let graph = g.S.Snapshot.graph c.args.snap.now in
    let vars = c.args.vars.now.variables in
    let fields = c.args.fields.now in
    let kept = c.args.kept.now in
    let nodes = c.args.nodes.now in
    c.known_rows.ensures.rows ds lawful of_kind are (subst (λ (ls : List Left). AreLeft schema graph vars fields kept nodes ls) (sym c.new-none.ensures) (none_known schema graph vars fields kept nodes))

pub returns-clause-too_large : goal.returns-clause-too_large
returns-clause-too_large g c = λ ds lawful of_kind are err.
    let schema = g.S.Snapshot.declared c.args.snap.now in
    let graph = g.S.Snapshot.graph c.args.snap.now in
    let vars = c.args.vars.now.variables in
    let fields = c.args.fields.now in
    let kept = c.args.kept.now in
    let nodes = c.args.nodes.now in
    c.known_rows.ensures.too_large ds lawful of_kind are (subst (λ (ls : List Left). AreLeft schema graph vars fields kept nodes ls) (sym c.new-none.ensures) (none_known schema graph vars fields kept nodes)) err
