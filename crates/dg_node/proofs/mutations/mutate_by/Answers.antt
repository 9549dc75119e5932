use Rattle.std.proofs.Common.{◌≡◌, List, Err, Some, sym, subst, ◌∙◌}
use Rattle.std.specs.Prelude.{Result, IfOk, OnErr}
use Rattle.dg_wire.specs.declared.refusal.Refusal.TheVariants as refusals
use Rattle.dg_wire.specs.declared.reply.Reply.TheVariants as replies
use Rattle.dg_nquad.specs.declared.fault.NquadFault.{NquadFault}
use Rattle.dg_nquad.specs.declared.fault.NquadFault.TheVariants as texts
use Rattle.dg_nquad.specs.declared.mutation.Statement.{Statement}
use Rattle.dg_nquad.specs.Whole.{mutation, Refuses}
use Rattle.dg_node.specs.Clusters.{Meets}
use Rattle.dg_node.specs.Mutations.{MutatesAs}
use Rattle.dg_node.specs.Sessions.{Serves, session_by}
use Rattle.dg_node.specs.Steps.{MayRaise}
use Rattle.dg_node.proofs.MutationLemmas.{bad_token, bad_syntax}
use Rattle.dg_node.proofs.Leasing.{stays_here}
use Rattle.dg_node.proofs.mutations.mutate_by.Goals as goal

pub returns-in-Ok-clause-ok : goal.returns-in-Ok-clause-ok
returns-in-Ok-clause-ok g c =
    subst (λ (read : Result (List Statement) NquadFault). IfOk c.mutate_with.result (λ reply. Meets (g.C.Cluster.takes c.args.cluster.now) (g.C.Cluster.zero c.args.cluster.now) (g.C.Cluster.zero c.mutate_with.new.cluster) (Serves c.args.author c.args.sid (Some c.args.txn.now) (Some c.mutate_with.new.txn) (λ m n. MutatesAs m (session_by c.args.sid c.args.txn.now) read reply n))))
    (sym c.in-Ok.ensures.mutation) c.mutate_with.ensures.ok

pub returns-in-Ok-clause-err : goal.returns-in-Ok-clause-err
returns-in-Ok-clause-err g c =
    subst (λ (read : Result (List Statement) NquadFault). OnErr c.mutate_with.result (Meets (g.C.Cluster.takes c.args.cluster.now) (g.C.Cluster.zero c.args.cluster.now) (g.C.Cluster.zero c.mutate_with.new.cluster) (Serves c.args.author c.args.sid (Some c.args.txn.now) (Some c.mutate_with.new.txn) (MayRaise (λ m. MutatesAs m (session_by c.args.sid c.args.txn.now) read)))))
    (sym c.in-Ok.ensures.mutation) c.mutate_with.ensures.err

pub returns-in-Err-BadToken-clause-ok : goal.returns-in-Err-BadToken-clause-ok
returns-in-Err-BadToken-clause-ok g c =
    let text = c.args.text.now in
    let session = session_by c.args.sid c.args.txn.now in
    let at : c.from.result ≡ c.in-Err-BadToken.offset = c.from.ensures ∙ c.in-Err-BadToken.offset-is in
    let read : mutation text ≡ Err (texts.BadToken c.in-Err-BadToken.offset) = subst (λ (f : NquadFault). Refuses f (mutation text)) c.in-Err-BadToken.field-0-is c.in-Err-BadToken.ensures.mutation in
    stays_here (g.C.Cluster.takes c.args.cluster.now) c.args.author c.args.sid c.args.txn.now (g.C.Cluster.zero c.args.cluster.now) c.requires.legal
    (λ m n. MutatesAs m session (mutation text) (replies.Refused (refusals.BadToken c.from.result)) n) (λ front back a b. bad_token _ session (mutation text) c.in-Err-BadToken.offset c.from.result read at)

pub returns-in-Err-BadSyntax-clause-ok : goal.returns-in-Err-BadSyntax-clause-ok
returns-in-Err-BadSyntax-clause-ok g c =
    let text = c.args.text.now in
    let session = session_by c.args.sid c.args.txn.now in
    let at : c.from-in-Err-BadSyntax.result ≡ c.in-Err-BadSyntax.offset = c.from-in-Err-BadSyntax.ensures ∙ c.in-Err-BadSyntax.offset-is in
    let read : mutation text ≡ Err (texts.BadSyntax c.in-Err-BadSyntax.offset) = subst (λ (f : NquadFault). Refuses f (mutation text)) c.in-Err-BadSyntax.field-0-is c.in-Err-BadSyntax.ensures.mutation in
    stays_here (g.C.Cluster.takes c.args.cluster.now) c.args.author c.args.sid c.args.txn.now (g.C.Cluster.zero c.args.cluster.now) c.requires.legal
    (λ m n. MutatesAs m session (mutation text) (replies.Refused (refusals.BadSyntax c.from-in-Err-BadSyntax.result)) n) (λ front back a b. bad_syntax _ session (mutation text) c.in-Err-BadSyntax.offset c.from-in-Err-BadSyntax.result read at)
