use Rattle.std.proofs.Common.{ℕ, List, ap, sym, ◌∙◌}
use Rattle.dg_wire.specs.declared.request.Request.TheVariants as requests
use Rattle.dg_node.proofs.LeadLemmas.{query_led, upsert_led, discard_led, err_spared, spared_by, takes_memory, commit_takes}
use Rattle.dg_node.proofs.engine.Engine.try_answer.Goals as goal

pub returns-in-Query-clause-ok : goal.returns-in-Query-clause-ok
returns-in-Query-clause-ok g c = query_led _ c.query.result c.args.self.now c.args.request.now c.in-Query.sid c.in-Query.body c.as_slice-in-Query.result.now c.in-Query.is c.as_slice-in-Query.ensures c.query.ensures.answered

pub returns-in-Upsert-clause-ok : goal.returns-in-Upsert-clause-ok
returns-in-Upsert-clause-ok g c = upsert_led _ c.upsert.result c.args.self.now c.upsert.new.self c.args.request.now c.in-Upsert.sid c.in-Upsert.body c.as_slice-in-Upsert.result.now c.in-Upsert.is c.as_slice-in-Upsert.ensures c.upsert.ensures.ok

pub returns-in-Discard-clause-ok : goal.returns-in-Discard-clause-ok
returns-in-Discard-clause-ok g c = discard_led _ c.discard.result c.args.self.now c.discard.new.self c.args.request.now c.in-Discard.sid c.in-Discard.is c.discard.ensures

pub returns-in-Alter-clause-wants : goal.returns-in-Alter-clause-wants
returns-in-Alter-clause-wants g c = takes_memory c.alter.result c.args.self.now c.args.request.now (requests.Alter c.in-Alter.body) c.in-Alter.is (λ m. tt)

pub returns-in-Begin-clause-wants : goal.returns-in-Begin-clause-wants
returns-in-Begin-clause-wants g c = takes_memory c.begin.result c.args.self.now c.args.request.now (requests.Begin c.in-Begin.sid) c.in-Begin.is (λ m. tt)

pub returns-in-Mutate-clause-wants : goal.returns-in-Mutate-clause-wants
returns-in-Mutate-clause-wants g c = takes_memory c.mutate.result c.args.self.now c.args.request.now (requests.Mutate c.in-Mutate.sid c.in-Mutate.body) c.in-Mutate.is (λ m. tt)

pub returns-in-Upsert-clause-wants : goal.returns-in-Upsert-clause-wants
returns-in-Upsert-clause-wants g c = takes_memory c.upsert.result c.args.self.now c.args.request.now (requests.Upsert c.in-Upsert.sid c.in-Upsert.body) c.in-Upsert.is (λ m. tt)

pub returns-in-Query-clause-wants : goal.returns-in-Query-clause-wants
returns-in-Query-clause-wants g c = takes_memory c.query.result c.args.self.now c.args.request.now (requests.Query c.in-Query.sid c.in-Query.body) c.in-Query.is (λ m. tt)

pub returns-in-Commit-clause-wants : goal.returns-in-Commit-clause-wants
returns-in-Commit-clause-wants g c = commit_takes c.commit.result c.args.self.now c.args.request.now c.in-Commit.sid c.in-Commit.is c.commit.ensures.wants

pub returns-in-Alter-clause-err : goal.returns-in-Alter-clause-err
returns-in-Alter-clause-err g c = err_spared c.alter.result c.args.self.now c.alter.new.self c.args.request.now c.alter.ensures.err

pub returns-in-Begin-clause-err : goal.returns-in-Begin-clause-err
returns-in-Begin-clause-err g c = spared_by c.begin.result c.args.self.now c.begin.new.self c.args.request.now (requests.Begin c.in-Begin.sid) c.in-Begin.is c.begin.ensures.err

pub returns-in-Mutate-clause-err : goal.returns-in-Mutate-clause-err
returns-in-Mutate-clause-err g c =
    spared_by c.mutate.result c.args.self.now c.mutate.new.self c.args.request.now (requests.Mutate c.in-Mutate.sid c.as_slice-in-Mutate.result.now)
    (c.in-Mutate.is ∙ ap (λ (b : List ℕ). requests.Mutate c.in-Mutate.sid b) (sym c.as_slice-in-Mutate.ensures)) c.mutate.ensures.err

pub returns-in-Upsert-clause-err : goal.returns-in-Upsert-clause-err
returns-in-Upsert-clause-err g c =
    spared_by c.upsert.result c.args.self.now c.upsert.new.self c.args.request.now (requests.Upsert c.in-Upsert.sid c.as_slice-in-Upsert.result.now)
    (c.in-Upsert.is ∙ ap (λ (b : List ℕ). requests.Upsert c.in-Upsert.sid b) (sym c.as_slice-in-Upsert.ensures)) c.upsert.ensures.err

pub returns-in-Commit-clause-err : goal.returns-in-Commit-clause-err
returns-in-Commit-clause-err g c = err_spared c.commit.result c.args.self.now c.commit.new.self c.args.request.now c.commit.ensures.err
