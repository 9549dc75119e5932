use Rattle.std.proofs.Common.{refl}
use Rattle.dg_parse.specs.Keys.{key_of}
use Rattle.dg_level.specs.Looping.{own_trees, leads_of}
use Rattle.dg_level.proofs.LoopLaws.{short_leads}
use Rattle.dg_level.proofs.looped.fetched_one.Goals as goal

pub returns : goal.returns
returns g c =
    let schema = g.S.Snapshot.declared c.args.snap.now in
    let graph = g.S.Snapshot.graph c.args.snap.now in
    let vars = c.args.vars.now.variables in
    let item = c.args.field.now.item in
    let kept = c.args.kept.now.item in
    record {
      name = key_of c.args.field.now;
      shown = own_trees schema graph vars item kept;
      leads = leads_of c.args.further schema graph vars item kept;
      key_is = c.in_ok-key.ensures;
      by = λ some. c.in_ok-content.ensures vars some;
      lists_are = c.in_ok-lists.ensures;
      short = short_leads schema graph vars c.args.further item kept;
      piece_is = λ node. refl;
    }
