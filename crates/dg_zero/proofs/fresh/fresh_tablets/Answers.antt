use Rattle.std.proofs.Common.{◌∙◌, sym}
use Rattle.dg_schema.specs.Definitions.{is_declared}
use Rattle.dg_zero.proofs.DeclaredTablets.{named_still}
use Rattle.dg_zero.proofs.NewTablets.{fresh_to}
use Rattle.dg_zero.proofs.fresh.fresh_tablets.Goals as goal

pub add_fresh-requires-clause-named : goal.add_fresh-requires-clause-named
add_fresh-requires-clause-named c =
    named_still c.args.count c.args.places.now c.loop-definition.made.tablets.items c.args.newer.now c.loop-definition.definition-index c.definition-item.result (is_declared c.args.declared.now c.definition-item.result.name) c.requires.distinct c.loop-definition-test.true (sym c.definition-item.is) c.loop-definition.invariant.tablets (c.requires.named c.definition-item.result.name)

pub loop-definition-preserved : goal.loop-definition-preserved
loop-definition-preserved c = record {
  tablets = c.in_ok-add_fresh.ensures.tablets ∙ fresh_to c.args.count c.args.places.now c.loop-definition.made.tablets.items c.args.newer.now c.loop-definition.definition-index c.definition-item.result c.loop-definition-test.true (sym c.definition-item.is) c.loop-definition.invariant.tablets;
  counts = c.in_ok-add_fresh.ensures.counts;
}
