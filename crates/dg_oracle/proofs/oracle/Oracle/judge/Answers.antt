use Rattle.std.proofs.Common.{subst, map}
use Rattle.dg_oracle.specs.Commits.{OracleState, ts_of}
use Rattle.dg_oracle.specs.Verdicts.{IsVerdict, verdict}
use Rattle.dg_oracle.proofs.Clashes.{verdict_is, ascends_from_zero}
use Rattle.dg_oracle.proofs.oracle.Oracle.judge.Goals as goal

pub judge-requires : goal.judge-requires
judge-requires g c = ascends_from_zero c.self.inside.line (map ts_of c.self.inside.commits) c.self.invariant.commits_ascend

pub returns-clause-meaning : goal.returns-clause-meaning
returns-clause-meaning g c =
    let commits = c.self.inside.commits in
    let meant = verdict_is g.K.Ord.cmp g.met.K.Ord.total commits c.args.start c.args.keys.now (ascends_from_zero c.self.inside.line (map ts_of commits) c.self.invariant.commits_ascend) c.requires.ascend in
    rw c.judge.ensures (subst (λ (o : OracleState g.row.K.Denot). IsVerdict g.K.Ord.cmp o.commits c.args.start c.args.keys.now (verdict g.K.Ord.cmp commits c.args.start c.args.keys.now)) c.self.view_is meant)
