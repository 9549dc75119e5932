use Rattle.std.proofs.Common.{◌<◌, ◌++◌, length, arith, ap, ◌∙◌}
use Rattle.std.specs.Prelude.{Option, option_to_list}
use Rattle.dg_check.specs.declared.parts.OrderKey.{OrderKey}
use Rattle.dg_check.specs.Plans.{key_of}
use Rattle.dg_check.proofs.PartLaws.{keys_more}
use Rattle.dg_check.proofs.resolving.keys_of.Goals as goal

pub loop-arg-preserved : goal.loop-arg-preserved
loop-arg-preserved c =
    let within : c.loop-arg.arg-index < length c.args.args.now = omega arith in
    keys_more c.args.variables.now c.args.args.now c.loop-arg.arg-index c.arg-item.result c.loop-arg.keys.items c.add_any.new.out.items within c.loop-arg.invariant
    (c.in_ok-add_any.ensures ∙ ap (λ (o : Option OrderKey). c.loop-arg.keys.items ++ option_to_list o) (c.in_ok-key.ensures ∙ ap (key_of c.args.variables.now) c.arg-item.is))
