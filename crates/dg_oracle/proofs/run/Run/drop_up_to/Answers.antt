use Rattle.std.specs.Prelude.{nat_lt}
use Rattle.dg_oracle.proofs.Marks.{none_above_line}
use Rattle.dg_oracle.proofs.Merging.{ascends_filter}
use Rattle.dg_oracle.proofs.run.Run.drop_up_to.Goals as goal

pub invariant_of-self : goal.invariant_of-self
invariant_of-self g c =
    rw c.drop_marks.ensures record {
      ascending = ascends_filter g.K.Ord.cmp (λ m. nat_lt c.args.line m.ts) c.self.inside.marks.items c.self.invariant.ascending;
      up_to_newest = (λ ts lt. none_above_line c.args.line ts c.self.inside.marks.items (c.self.invariant.up_to_newest ts lt));
    }
