use Rattle.std.proofs.Common.{◌≡◌, ◌∙◌, subst, List, [], rules}
use Rattle.std.specs.Prelude.{IfOk}
use Rattle.std.proofs.lemmas.List.{nil_from_length}
use Rattle.dg_values.specs.declared.value.Posting.{Posting}
use Rattle.dg_delta.specs.Ops.{after_ops}
use Rattle.dg_txn.specs.Own.{seen}
use Rattle.dg_txn.proofs.overlay.read_over.Goals as goal

pub returns-clause-list : goal.returns-clause-list
returns-clause-list g c =
    let is : after_ops c.as_slice.result.now c.ops_at-ops.result.now ≡ seen c.args.base.now.schema c.args.base.now.graph c.args.gains.now c.args.key.now =
    λ i. after_ops ((c.as_slice.ensures.value ∙ c.in_ok-list.ensures.list) i) (c.ops_at-ops.ensures.ops i) in
    subst (λ (x : List Posting). IfOk c.apply.result (λ v. v.items ≡ x)) is c.apply.ensures.after

pub returns-then-is_empty-clause-list : goal.returns-then-is_empty-clause-list
returns-then-is_empty-clause-list g c =
    let none : c.ops_at-ops.result.now ≡ [] = nil_from_length c.ops_at-ops.result.now (search rules) in
    let is : after_ops c.in_ok-list.list.items c.ops_at-ops.result.now ≡ seen c.args.base.now.schema c.args.base.now.graph c.args.gains.now c.args.key.now =
    λ i. after_ops (c.in_ok-list.ensures.list i) (c.ops_at-ops.ensures.ops i) in
    rw none at is
