use Rattle.std.proofs.Common.{◌≡◌, ◌++◌, ◌∙◌, rules}
use Rattle.dg_values.specs.Ascending.{ascending}
use Rattle.dg_keys.specs.Tablets.{tablet_cmp}
use Rattle.dg_zero.proofs.NewTablets.{put_behind}
use Rattle.dg_zero.proofs.owners.put_sorted.Goals as goal

pub returns-clause-put : goal.returns-clause-put
returns-clause-put c =
    let sorted : c.in_order.result.items ≡ ascending tablet_cmp (c.args.tablets.now.items ++ c.args.more.items) = search rules in
    sorted ∙ put_behind c.args.tablets.now.items c.args.more.items c.requires.ascend
