use Rattle.std.proofs.Common.{◌≡◌, ℕ, ◌<◌, ◌≤◌, sym, subst, arith}
use Rattle.dg_oracle.specs.Commits.{OracleState, IsOracle, below_first, above, purged}
use Rattle.dg_oracle.specs.Verdicts.{verdict}
use Rattle.dg_oracle.proofs.Clashes.{same_verdicts}
use Rattle.dg_oracle.proofs.Oracles.{purged_is, unpurged, risen}
use Rattle.dg_oracle.proofs.oracle.Oracle.purge.Goals as goal

pub returns-then-line-self-clause-purged : goal.returns-then-line-self-clause-purged
returns-then-line-self-clause-purged g c =
    subst (λ (o : OracleState g.row.K.Denot). o ≡ purged o c.args.line) c.self.view_is (unpurged _ c.args.line c.self.invariant (omega (arith, c.if-line-self.true)))

pub invariant_of-self : goal.invariant_of-self
invariant_of-self g c =
    let le : c.args.line ≤ below_first c.self.inside.active.items c.self.inside.next = subst (λ (o : OracleState g.row.K.Denot). c.args.line ≤ below_first o.active o.next) (sym c.self.view_is) c.requires in
    let lt : c.self.inside.line < c.args.line = omega (arith, c.if-line-self.false) in
    rw c.drop_up_to.ensures (subst (λ (n : ℕ). IsOracle {K = g.row.K.Denot} (record { next = c.self.inside.next; active = c.self.inside.active.items; commits = above c.args.line c.self.inside.commits; line = n })) (risen c.self.inside.line c.args.line lt) (purged_is _ c.args.line c.self.invariant le))

pub returns-clause-same_verdicts : goal.returns-clause-same_verdicts
returns-clause-same_verdicts g c start keys le =
    rw c.drop_up_to.ensures (subst (λ (o : OracleState g.row.K.Denot). verdict g.K.Ord.cmp (above c.args.line c.self.inside.commits) start keys ≡ verdict g.K.Ord.cmp o.commits start keys) c.self.view_is (same_verdicts g.K.Ord.cmp c.args.line c.args.line c.self.inside.commits (omega arith) start keys le))

pub returns-clause-valid : goal.returns-clause-valid
returns-clause-valid g c =
    let le : c.args.line ≤ below_first c.self.inside.active.items c.self.inside.next = subst (λ (o : OracleState g.row.K.Denot). c.args.line ≤ below_first o.active o.next) (sym c.self.view_is) c.requires in
    let lt : c.self.inside.line < c.args.line = omega (arith, c.if-line-self.false) in
    rw c.drop_up_to.ensures (subst (λ (n : ℕ). IsOracle {K = g.row.K.Denot} (record { next = c.self.inside.next; active = c.self.inside.active.items; commits = above c.args.line c.self.inside.commits; line = n })) (risen c.self.inside.line c.args.line lt) (purged_is _ c.args.line c.self.invariant le))
