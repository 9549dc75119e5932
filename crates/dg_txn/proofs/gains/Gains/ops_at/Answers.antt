use Rattle.std.proofs.Common.{◌≡◌, ◌∙◌, sym, ap, subst, List, []}
use Rattle.std.specs.Prelude.{Option, unwrap_or, option_copied, option_map}
use Rattle.std.specs.Arc.{arc_value}
use Rattle.dg_values.specs.Ascending.{Ascends}
use Rattle.dg_delta.specs.declared.op.Op.{Op}
use Rattle.dg_delta.specs.Ops.{op_cmp}
use Rattle.dg_keys.specs.declared.record.Part.{Part}
use Rattle.dg_keys.specs.Keys.{ops_at, AreParts}
use Rattle.dg_pages.specs.Paged.{joined}
use Rattle.dg_txn.proofs.OwnSteps.{looked_up, ops_ascend}
use Rattle.dg_txn.proofs.gains.Gains.ops_at.Goals as goal

pub returns-in-Some-clause-ops : goal.returns-in-Some-clause-ops
returns-in-Some-clause-ops c =
    let es = joined c.self.inside.lists in
    let key = c.args.key.now in
    let found : unwrap_or (option_map arc_value (option_copied c.get.result)) [] ≡ ops_at c.args.self.now key = ap (λ (o : Option (List Op)). unwrap_or o []) c.get.ensures ∙ (looked_up es key c.self.invariant ∙ ap (λ (ps : List Part). ops_at ps key) c.self.view_is) in
    rw (c.as_slice.ensures, c.deref.ensures) (rw c.in-Some.is at found)

pub returns-in-Some-clause-ascend : goal.returns-in-Some-clause-ascend
returns-in-Some-clause-ascend c =
    let parts : AreParts c.args.self.now = subst AreParts c.self.view_is c.self.invariant in
    subst (Ascends op_cmp) (sym (returns-in-Some-clause-ops c)) (ops_ascend c.args.self.now c.args.key.now parts)

pub returns-in-None-clause-ops : goal.returns-in-None-clause-ops
returns-in-None-clause-ops c =
    let es = joined c.self.inside.lists in
    let key = c.args.key.now in
    let found : unwrap_or (option_map arc_value (option_copied c.get.result)) [] ≡ ops_at c.args.self.now key = ap (λ (o : Option (List Op)). unwrap_or o []) c.get.ensures ∙ (looked_up es key c.self.invariant ∙ ap (λ (ps : List Part). ops_at ps key) c.self.view_is) in
    rw c.in-None.is at found
