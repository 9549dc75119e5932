use Rattle.std.proofs.Common.{Err, ap, ◌∙◌}
use Rattle.dg_level.specs.Meaning.{overflow_of}
use Rattle.dg_txn.specs.Own.{graph}
use Rattle.dg_node.specs.Upserts.{statements_of}
use Rattle.dg_node.proofs.Opens.{seen_lawful}
use Rattle.dg_node.proofs.Upserting.{ok_within, err_within, statements_are, beyond_here}
use Rattle.dg_node.proofs.upserts.upsert_by.Goals as goal

pub returns-in-Ok-clause-ok : goal.returns-in-Ok-clause-ok
returns-in-Ok-clause-ok g c =
    let z = g.C.Cluster.zero c.args.cluster.now in
    let txn = c.args.txn.now in
    let lawful = seen_lawful z.groups z.history c.args.author txn c.requires.legal c.requires.opened in
    let known = c.in-Ok.ensures.known lawful in
    let same = statements_are txn.schema (graph txn) c.args.plan.now.query c.args.blocks.now.mutations c.as_slice-names.result.now c.in-Ok.vars.variables (c.as_slice-names.ensures ∙ c.requires.plan.vars) known.1 in
    ok_within (g.C.Cluster.takes c.args.cluster.now) c.args.author c.args.sid txn z (g.C.Cluster.zero c.add_meant.new.cluster) _ _ (overflow_of txn.schema (graph txn) c.args.plan.now.query) _ known.0 same c.add_meant.result c.add_meant.ensures.ok

pub returns-in-Ok-clause-err : goal.returns-in-Ok-clause-err
returns-in-Ok-clause-err g c =
    let z = g.C.Cluster.zero c.args.cluster.now in
    let txn = c.args.txn.now in
    let lawful = seen_lawful z.groups z.history c.args.author txn c.requires.legal c.requires.opened in
    let known = c.in-Ok.ensures.known lawful in
    let same = statements_are txn.schema (graph txn) c.args.plan.now.query c.args.blocks.now.mutations c.as_slice-names.result.now c.in-Ok.vars.variables (c.as_slice-names.ensures ∙ c.requires.plan.vars) known.1 in
    err_within (g.C.Cluster.takes c.args.cluster.now) c.args.author c.args.sid txn z (g.C.Cluster.zero c.add_meant.new.cluster) _ _ (overflow_of txn.schema (graph txn) c.args.plan.now.query) _ known.0 same c.add_meant.result c.add_meant.ensures.err

pub returns-in-Err-SumOverflow-clause-ok : goal.returns-in-Err-SumOverflow-clause-ok
returns-in-Err-SumOverflow-clause-ok g c = rw c.in-Err-SumOverflow.field-0-is (
    let z = g.C.Cluster.zero c.args.cluster.now in
    let txn = c.args.txn.now in
    let lawful = seen_lawful z.groups z.history c.args.author txn c.requires.legal c.requires.opened in
    let beyond = c.in-Err-SumOverflow.ensures.overflow lawful c.in-Err-SumOverflow.name (ap Err c.in-Err-SumOverflow.field-0-is) in
    beyond_here (g.C.Cluster.takes c.args.cluster.now) c.args.author c.args.sid txn z c.requires.legal
    (statements_of txn.schema (graph txn) (record { query = c.args.plan.now.query; muts = c.args.blocks.now.mutations })) (overflow_of txn.schema (graph txn) c.args.plan.now.query) c.in-Err-SumOverflow.name beyond)
