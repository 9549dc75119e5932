use Rattle.std.proofs.Common.{refl}
use Rattle.dg_parse.specs.Fields.{count_edge}
use Rattle.dg_parse.proofs.items.count_edge_at.Goals as goal

pub returns : goal.returns
unfolding count_edge
returns c = rw (c.in_ok-edge.ensures, c.in_ok-p.ensures, c.refuse_key-p.ensures, c.in_ok-key.ensures.made) refl
