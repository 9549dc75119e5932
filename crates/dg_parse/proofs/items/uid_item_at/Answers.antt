use Rattle.std.proofs.Common.{refl}
use Rattle.dg_parse.specs.Fields.{uid_item}
use Rattle.dg_parse.proofs.items.uid_item_at.Goals as goal

pub returns : goal.returns
unfolding uid_item
returns c = rw (c.in_ok-p.ensures, c.refuse_key-p.ensures, c.in_ok-key.ensures.made) refl
