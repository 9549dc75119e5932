use Rattle.std.proofs.Common.{List, subst}
use Rattle.dg_edges.specs.Resolving.{Resolves, IsAnswer}
use Rattle.dg_schema.specs.declared.definition.PredDef.{PredDef}
use Rattle.dg_upsert.specs.Meaning.{mutations_mean}
use Rattle.dg_node.proofs.Leasing.{resolved_by}
use Rattle.dg_node.proofs.Upserting.{meant_added, meant_spared}
use Rattle.dg_node.proofs.upserts.add_meant.Goals as goal

pub add_checked-requires-clause-resolved : goal.add_checked-requires-clause-resolved
add_checked-requires-clause-resolved g c =
    let statements = mutations_mean c.args.names.now c.args.vars.now.variables c.args.blocks.now.mutations in
    let answer = subst (λ (ds : List PredDef). IsAnswer (Resolves ds statements) c.apply_blocks-checked.result) c.schema.ensures c.apply_blocks-checked.ensures in
    resolved_by c.args.txn.now statements c.apply_blocks-checked.result answer

pub returns-in-Ok-clause-ok : goal.returns-in-Ok-clause-ok
returns-in-Ok-clause-ok g c =
    let statements = mutations_mean c.args.names.now c.args.vars.now.variables c.args.blocks.now.mutations in
    let answer = subst (λ (ds : List PredDef). IsAnswer (Resolves ds statements) c.apply_blocks-checked.result) c.schema.ensures c.apply_blocks-checked.ensures in
    meant_added (g.C.Cluster.takes c.args.cluster.now) c.args.author c.args.sid c.args.txn.now (g.C.Cluster.zero c.args.cluster.now) (g.C.Cluster.zero c.add_checked.new.cluster) _ statements c.in-Ok.reply c.upserted.result c.upserted.ensures (c.in-Ok.ensures.ok statements answer)

pub returns-in-Err-clause-err : goal.returns-in-Err-clause-err
returns-in-Err-clause-err g c =
    let statements = mutations_mean c.args.names.now c.args.vars.now.variables c.args.blocks.now.mutations in
    let answer = subst (λ (ds : List PredDef). IsAnswer (Resolves ds statements) c.apply_blocks-checked.result) c.schema.ensures c.apply_blocks-checked.ensures in
    meant_spared (g.C.Cluster.takes c.args.cluster.now) c.args.author c.args.sid c.args.txn.now (g.C.Cluster.zero c.args.cluster.now) (g.C.Cluster.zero c.add_checked.new.cluster) _ statements (c.in-Err.ensures.err statements answer)
