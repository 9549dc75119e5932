use Rattle.std.proofs.Common.{refl}
use Rattle.dg_parse.specs.Fields.{agg_item}
use Rattle.dg_parse.proofs.items.agg_item_at.Goals as goal

pub returns : goal.returns
unfolding agg_item
returns c = rw (c.in_ok-op.ensures, c.in_ok-p.ensures, c.in_ok-var.ensures, c.in_ok-p-2.ensures, c.refuse_key-p.ensures, c.in_ok-key.ensures.made) refl
