use Rattle.std.proofs.Common.{◌≡◌, List, subst}
use Rattle.std.specs.Prelude.{IfOk, option_to_list}
use Rattle.dg_values.specs.declared.value.Value.{Value}
use Rattle.dg_level.specs.Answers.{values_shown}
use Rattle.dg_level.specs.Known.{values_by}
use Rattle.dg_level.proofs.LeftLaws.{if_some}
use Rattle.dg_level.proofs.known.tree_under.Goals as goal

pub returns-in-Some : goal.returns-in-Some
returns-in-Some g c = λ knows.
    let own = values_by (g.S.Snapshot.graph c.args.snap.now) c.args.pred.now in
    let same : c.in-Some.values.items ≡ own c.args.node = if_some c.in_ok-values.field-0 c.in-Some.values (λ v. v.items ≡ own c.args.node) c.in-Some.is (c.in_ok-values.ensures own knows) in
    subst (λ (vs : List Value). IfOk c.values_shown.result (λ tree. option_to_list tree ≡ values_shown c.args.list vs)) same c.values_shown.ensures
