use Rattle.std.proofs.Common.{◌≡◌, subst, sym, rules}
use Rattle.dg_values.specs.Ascending.{Ascends, with_one}
use Rattle.dg_sets.proofs.Sets.{ascends_with}
use Rattle.dg_keys.specs.Tablets.{tablet_cmp}
use Rattle.dg_zero.proofs.NewTablets.{tablet_order}
use Rattle.dg_zero.proofs.owners.put.Goals as goal

pub returns-in-Ok-clause-ascends : goal.returns-in-Ok-clause-ascends
returns-in-Ok-clause-ascends c =
    let put : c.insert.new.self.items ≡ with_one tablet_cmp c.args.tablets.now.items c.args.tablet = search rules in
    subst (Ascends tablet_cmp) (sym put) (ascends_with tablet_cmp tablet_order c.args.tablets.now.items c.args.tablet c.requires.ascend)
