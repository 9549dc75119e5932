use Rattle.std.proofs.Common.{arith}
use Rattle.std.proofs.lemmas.Result.{on_ok_weaker}
use Rattle.dg_recurse.proofs.WayLaws.{learned_kept}
use Rattle.dg_recurse.proofs.search.learn.Goals as goal

pub returns : goal.returns
returns c = record {
  kept =
      on_ok_weaker c.learn.result (
      λ learned. learned_kept c.args.columns.now c.args.reach.now.edges c.requires.near.near c.args.way.now c.learn.new.self c.args.place c.args.edges (record { edges = c.saturating_add.result; blockers = c.in_ok-blockers.blockers })
      c.requires.sound
      c.learn.ensures.path
      learned
      c.requires.bare
      c.in_ok-blockers.ensures
      (omega (arith, c.saturating_add.ensures))
      ) c.learn.ensures.raised;
}
