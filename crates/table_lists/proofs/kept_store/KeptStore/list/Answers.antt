use Rattle.table_lists.proofs.Within.{found_within}
use Rattle.table_lists.proofs.kept_store.KeptStore.list.Goals as goal

pub new-requires : goal.new-requires
new-requires c =
    let kept = c.self.inside in
    rw c.in_ok-list.ensures (found_within kept.rolled kept.newest c.args.key.now kept.store c.self.invariant)
