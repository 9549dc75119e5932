use Rattle.std.proofs.Common.{◌≡◌, List, subst, sym, rules}
use Rattle.dg_schema.specs.declared.definition.PredDef.{PredDef}
use Rattle.dg_schema.specs.Definitions.{with_definitions}
use Rattle.dg_schema.specs.Readable.{AreReadable}
use Rattle.dg_schema.proofs.Writable.{joined_readable}
use Rattle.dg_schema.proofs.schema.Schema.join.Goals as goal

pub invariant_of-self-2 : goal.invariant_of-self-2
invariant_of-self-2 c =
    let definitions : List PredDef = c.self.inside.definitions.items in
    let joined : c.put_all.new.definitions.items ≡ with_definitions definitions c.args.newer.now = search rules in
    record {
      indexed = c.put_all.ensures.indexed;
      readable = subst AreReadable (sym joined) (joined_readable definitions c.args.newer.now c.self.invariant.readable c.definitions.ensures.readable);
    }
