use Rattle.std.proofs.Common.{arith}
use Rattle.dg_oracle.proofs.Marks.{keys_elsewhere}
use Rattle.dg_oracle.proofs.Merging.{commit_ascends}
use Rattle.dg_oracle.proofs.run.Run.of_commit.Goals as goal

pub invariant_of-result : goal.invariant_of-result
invariant_of-result g c =
    rw c.marks_at.ensures record {
      ascending = commit_ascends g.K.Ord.cmp g.met.K.Ord.total c.args.ts c.args.keys.items c.requires.ascend;
      up_to_newest = (λ ts lt. keys_elsewhere c.args.ts ts c.args.keys.items (λ e. omega arith));
    }
