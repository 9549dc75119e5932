use Rattle.std.proofs.Common.{List, subst}
use Rattle.dg_edges.specs.Resolving.{Resolves, IsAnswer}
use Rattle.dg_schema.specs.declared.definition.PredDef.{PredDef}
use Rattle.dg_node.proofs.Leasing.{resolved_by}
use Rattle.dg_node.proofs.mutations.mutate_with.Goals as goal

pub add_checked-requires-clause-resolved : goal.add_checked-requires-clause-resolved
add_checked-requires-clause-resolved g c =
    let statements = c.args.mutation.statements in
    resolved_by c.args.txn.now statements c.resolve-checked.result (subst (λ (ds : List PredDef). IsAnswer (Resolves ds statements) c.resolve-checked.result) c.schema.ensures c.resolve-checked.ensures)

pub returns-clause-ok : goal.returns-clause-ok
returns-clause-ok g c =
    let statements = c.args.mutation.statements in
    c.add_checked.ensures.ok statements (subst (λ (ds : List PredDef). IsAnswer (Resolves ds statements) c.resolve-checked.result) c.schema.ensures c.resolve-checked.ensures)

pub returns-clause-err : goal.returns-clause-err
returns-clause-err g c =
    let statements = c.args.mutation.statements in
    c.add_checked.ensures.err statements (subst (λ (ds : List PredDef). IsAnswer (Resolves ds statements) c.resolve-checked.result) c.schema.ensures c.resolve-checked.ensures)
