use Rattle.std.proofs.Common.{◌∙◌, List, ap, subst, sym}
use Rattle.dg_oracle.specs.Commits.{Commit, Ascends}
use Rattle.dg_oracle.specs.Verdicts.{last_clash}
use Rattle.dg_oracle.specs.Histories.{Layer, marks_of, IsLast}
use Rattle.dg_oracle.proofs.Views.{last_seen, times_seen}
use Rattle.dg_oracle.proofs.history.History.last_clash.Goals as goal

pub returns : goal.returns
returns g c =
    let runs = c.self.inside.runs.items in
    let times = c.self.inside.times.items in
    let ascend : Ascends 0 times = rw (sym (times_seen (marks_of runs) times), c.self.view_is) c.requires in
    let found : IsLast g.K.Ord.cmp (marks_of runs) c.args.start c.args.key.now c.last_in.result = subst (λ (rs : List (Layer g.row.K.Denot)). IsLast g.K.Ord.cmp (marks_of rs) c.args.start c.args.key.now c.last_in.result) c.as_slice.ensures.value c.last_in.ensures in
    last_seen g.K.Ord.cmp c.args.start c.args.key.now (marks_of runs) 0 times c.last_in.result ascend c.self.invariant.known found ∙ ap (λ (cs : List (Commit g.row.K.Denot)). last_clash g.K.Ord.cmp cs c.args.start c.args.key.now) c.self.view_is
