use Rattle.std.proofs.Common.{◌≡◌, ℕ, List, Result, Err, refl, ap, sym, subst, ◌∙◌}
use Rattle.std.specs.Prelude.{IfOk}
use Rattle.dg_schema.specs.declared.definition.PredDef.{PredDef}
use Rattle.dg_schema.specs.Whole as language
use Rattle.dg_wire.specs.declared.refusal.Refusal.TheVariants as refusals
use Rattle.dg_wire.specs.declared.reply.Reply.{Reply}
use Rattle.dg_wire.specs.declared.reply.Reply.TheVariants as replies
use Rattle.dg_node.specs.Alters.{altered_by}
use Rattle.dg_node.specs.Clusters.{Meets}
use Rattle.dg_node.specs.Machine.{Machine}
use Rattle.dg_node.specs.Sessions.{Alters}
use Rattle.dg_node.proofs.Altering.{unasked_meets}
use Rattle.dg_node.proofs.alters.alter_by.Goals as goal

pub returns-in-Ok-clause-ok : goal.returns-in-Ok-clause-ok
returns-in-Ok-clause-ok g c =
    subst (λ (r : Result (List PredDef) ℕ). IfOk c.alter_with.result (λ (p : Reply). Meets (g.C.Cluster.takes c.args.cluster.now) (g.C.Cluster.zero c.args.cluster.now) (g.C.Cluster.zero c.alter_with.new.cluster) (Alters c.args.author (λ (m n : Machine). ◌≡◌ {A = Reply × Machine} (altered_by m r) (p, n)))))
    (sym c.in-Ok.ensures) c.alter_with.ensures.ok

pub returns-in-Err-SchemaSyntax-clause-ok : goal.returns-in-Err-SchemaSyntax-clause-ok
returns-in-Err-SchemaSyntax-clause-ok g c =
    let read : language.schema c.args.text.now ≡ Err c.in-Err-SchemaSyntax.line = rw c.in-Err-SchemaSyntax.field-0-is at c.in-Err-SchemaSyntax.ensures in
    let at : c.in-Err-SchemaSyntax.line ≡ c.from.result = sym (c.from.ensures ∙ c.in-Err-SchemaSyntax.line-is) in
    unasked_meets (g.C.Cluster.takes c.args.cluster.now) c.args.author (λ (m n : Machine). ◌≡◌ {A = Reply × Machine} (altered_by m (language.schema c.args.text.now)) (replies.Refused (refusals.SchemaSyntax c.from.result), n)) (g.C.Cluster.zero c.args.cluster.now) c.requires.legal
    (λ m. ap (altered_by m) read ∙ (λ i. (replies.Refused (refusals.SchemaSyntax (at i)), m)))

pub returns-in-Err-OutOfMemory-clause-err : goal.returns-in-Err-OutOfMemory-clause-err
returns-in-Err-OutOfMemory-clause-err g c = unasked_meets (g.C.Cluster.takes c.args.cluster.now) c.args.author (λ (m n : Machine). n ≡ m) (g.C.Cluster.zero c.args.cluster.now) c.requires.legal (λ m. refl)
