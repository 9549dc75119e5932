use Rattle.std.proofs.Common.{◌∙◌, ap, List}
use Rattle.dg_oracle.specs.Commits.{Commit, above}
use Rattle.dg_oracle.proofs.Views.{cut_layered, cut_known, cut_seen}
use Rattle.dg_oracle.proofs.history.History.drop_up_to.Goals as goal

pub invariant_of-self : goal.invariant_of-self
invariant_of-self g c = rw (c.drop_in.ensures, c.drop_times.ensures) record {
  layered = cut_layered c.args.line c.self.inside.runs.items c.self.invariant.layered;
  known = cut_known c.args.line c.self.inside.runs.items c.self.inside.times.items c.self.invariant.known;
}

pub returns : goal.returns
returns g c =
    rw (c.drop_in.ensures, c.drop_times.ensures) (cut_seen c.args.line c.self.inside.runs.items c.self.inside.times.items ∙ ap (λ (cs : List (Commit g.row.K.Denot)). above c.args.line cs) c.self.view_is)
