use Rattle.table_runs.proofs.groups.kept.Kept.add.Goals as goal

pub invariant_of-self : goal.invariant_of-self
invariant_of-self c = c.add_at.ensures c.self.inside.counting.history c.self.invariant
