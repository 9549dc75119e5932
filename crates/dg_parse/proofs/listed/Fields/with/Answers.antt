use Rattle.dg_parse.proofs.Slotted.{kept_index}
use Rattle.dg_parse.proofs.listed.Fields.with.Goals as goal

pub invariant_of-result : goal.invariant_of-result
invariant_of-result c =
    kept_index c.self.inside.fields c.as_slice.result.now c.push.new.self c.args.field c.self.inside.index.groups.items c.in_ok-index.index.groups.items c.self.inside.index.others c.in_ok-index.index.others
    c.as_slice.ensures c.in_ok-push.ensures.ok c.self.invariant c.in_ok-index.ensures.made
