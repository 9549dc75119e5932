use Rattle.std.proofs.Common.{◌≡◌, List, None, refl, sym, subst, ◌∙◌}
use Rattle.dg_schema.specs.declared.definition.PredDef.{PredDef}
use Rattle.dg_check.specs.Faults.{fault_of_upsert}
use Rattle.dg_check.specs.Outcomes.{IsPlanOf, IsFaultOfUpsert}
use Rattle.dg_txn.specs.Own.{graph}
use Rattle.dg_node.proofs.Upserting.{ok_clean, err_clean, found_here, wanted_here}
use Rattle.dg_node.proofs.upserts.upsert_read.Goals as goal

pub upsert_by-requires-clause-plan : goal.upsert_by-requires-clause-plan
upsert_by-requires-clause-plan g c =
    let plan = c.in-Ok.plan in
    let there = c.in-Ok.ensures.plan in
    subst (λ (ds : List PredDef). IsPlanOf ds plan.query plan) c.schema.ensures (subst (λ q. IsPlanOf c.schema.result.now q plan) (sym there.same) there)

pub returns-in-Ok-clause-ok : goal.returns-in-Ok-clause-ok
returns-in-Ok-clause-ok g c =
    let schema = c.args.txn.now.schema in
    let upsert = c.args.upsert in
    let clean : fault_of_upsert schema upsert ≡ None = (λ i. fault_of_upsert (sym c.schema.ensures i) upsert) ∙ c.in-Ok.ensures.none refl in
    let query = c.in-Ok.ensures.plan.same in
    let muts = c.in-Ok.ensures.blocks in
    ok_clean (g.C.Cluster.takes c.args.cluster.now) c.args.author c.args.sid c.args.txn.now (g.C.Cluster.zero c.args.cluster.now) (g.C.Cluster.zero c.upsert_by.new.cluster) _ schema (graph c.args.txn.now) _ upsert clean (λ i. record { query = query i; muts = muts i })
    (g.P.Patterns.refused c.check_upsert.new.patterns) c.upsert_by.result c.upsert_by.ensures.ok

pub returns-in-Ok-clause-err : goal.returns-in-Ok-clause-err
returns-in-Ok-clause-err g c =
    let schema = c.args.txn.now.schema in
    let upsert = c.args.upsert in
    let clean : fault_of_upsert schema upsert ≡ None = (λ i. fault_of_upsert (sym c.schema.ensures i) upsert) ∙ c.in-Ok.ensures.none refl in
    let query = c.in-Ok.ensures.plan.same in
    let muts = c.in-Ok.ensures.blocks in
    err_clean (g.C.Cluster.takes c.args.cluster.now) c.args.author c.args.sid c.args.txn.now (g.C.Cluster.zero c.args.cluster.now) (g.C.Cluster.zero c.upsert_by.new.cluster) _ schema (graph c.args.txn.now) _ upsert clean (λ i. record { query = query i; muts = muts i })
    c.upsert_by.result c.upsert_by.ensures.err

pub returns-in-Err-clause-ok : goal.returns-in-Err-clause-ok
returns-in-Err-clause-ok g c =
    let upsert = c.args.upsert in
    let schema = c.args.txn.now.schema in
    let list = g.P.Patterns.refused c.check_upsert.new.patterns in
    let fault = c.in-Err.fault in
    let there : IsFaultOfUpsert schema upsert list fault = subst (λ (ds : List PredDef). IsFaultOfUpsert ds upsert list fault) c.schema.ensures c.in-Err.ensures.fault in
    found_here (g.C.Cluster.takes c.args.cluster.now) c.args.author c.args.sid c.args.txn.now (g.C.Cluster.zero c.args.cluster.now) c.requires.legal list schema (graph c.args.txn.now) upsert fault c.refused_check.result there c.refused_check.ensures.found c.refused_check.ensures.refused

pub returns-in-Err-clause-err : goal.returns-in-Err-clause-err
returns-in-Err-clause-err g c =
    wanted_here (g.C.Cluster.takes c.args.cluster.now) c.args.author c.args.sid c.args.txn.now (g.C.Cluster.zero c.args.cluster.now) c.requires.legal _ c.refused_check.result
