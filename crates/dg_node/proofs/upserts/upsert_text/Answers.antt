use Rattle.std.proofs.Common.{◌≡◌, [], Err, Some, sym, subst, ◌∙◌}
use Rattle.std.specs.Prelude.{Result, IfOk, OnErr}
use Rattle.dg_parse.specs.declared.fault.DqlFault.{DqlFault}
use Rattle.dg_parse.specs.declared.fault.DqlFault.TheVariants as texts
use Rattle.dg_parse.specs.declared.upsert.Upsert.{Upsert}
use Rattle.dg_parse.specs.Whole.{upsert_of, Refuses}
use Rattle.dg_txn.specs.Own.{graph}
use Rattle.dg_node.specs.Clusters.{Meets}
use Rattle.dg_node.specs.Sessions.{Serves, session_by}
use Rattle.dg_node.specs.Steps.{MayRaise}
use Rattle.dg_node.specs.Upserts.{UpsertsAs}
use Rattle.dg_node.proofs.Upserting.{token_here, deep_here, syntax_here}
use Rattle.dg_node.proofs.upserts.upsert_text.Goals as goal

pub returns-in-Ok-clause-ok : goal.returns-in-Ok-clause-ok
returns-in-Ok-clause-ok g c =
    let txn = c.args.txn.now in
    subst (λ (read : Result Upsert DqlFault). IfOk c.upsert_read.result (λ reply. Meets (g.C.Cluster.takes c.args.cluster.now) (g.C.Cluster.zero c.args.cluster.now) (g.C.Cluster.zero c.upsert_read.new.cluster) (Serves c.args.author c.args.sid (Some txn) (Some c.upsert_read.new.txn) (λ m n. UpsertsAs (g.P.Patterns.refused c.upsert_read.new.patterns) m (session_by c.args.sid txn) txn.schema (graph txn) read reply n))))
    (sym c.in-Ok.ensures) c.upsert_read.ensures.ok

pub returns-in-Ok-clause-err : goal.returns-in-Ok-clause-err
returns-in-Ok-clause-err g c =
    let txn = c.args.txn.now in
    subst (λ (read : Result Upsert DqlFault). OnErr c.upsert_read.result (Meets (g.C.Cluster.takes c.args.cluster.now) (g.C.Cluster.zero c.args.cluster.now) (g.C.Cluster.zero c.upsert_read.new.cluster) (Serves c.args.author c.args.sid (Some txn) (Some c.upsert_read.new.txn) (MayRaise (λ m. UpsertsAs [] m (session_by c.args.sid txn) txn.schema (graph txn) read)))))
    (sym c.in-Ok.ensures) c.upsert_read.ensures.err

pub returns-in-Err-BadToken-clause-ok : goal.returns-in-Err-BadToken-clause-ok
returns-in-Err-BadToken-clause-ok g c =
    let txn = c.args.txn.now in
    let text = c.args.text.now in
    let at : c.from.result ≡ c.in-Err-BadToken.offset = c.from.ensures ∙ c.in-Err-BadToken.offset-is in
    let read : upsert_of text ≡ Err (texts.BadToken c.in-Err-BadToken.offset) = subst (λ (f : DqlFault). Refuses f (upsert_of text)) c.in-Err-BadToken.field-0-is c.in-Err-BadToken.ensures in
    token_here (g.C.Cluster.takes c.args.cluster.now) c.args.author c.args.sid txn (g.C.Cluster.zero c.args.cluster.now) c.requires.legal (g.P.Patterns.refused c.args.patterns.now) txn.schema (graph txn) (upsert_of text) c.in-Err-BadToken.offset c.from.result at read

pub returns-in-Err-TooDeep-clause-ok : goal.returns-in-Err-TooDeep-clause-ok
returns-in-Err-TooDeep-clause-ok g c =
    let txn = c.args.txn.now in
    let text = c.args.text.now in
    let at : c.from-in-Err-TooDeep.result ≡ c.in-Err-TooDeep.offset = c.from-in-Err-TooDeep.ensures ∙ c.in-Err-TooDeep.offset-is in
    let read : upsert_of text ≡ Err (texts.TooDeep c.in-Err-TooDeep.offset) = subst (λ (f : DqlFault). Refuses f (upsert_of text)) c.in-Err-TooDeep.field-0-is c.in-Err-TooDeep.ensures in
    deep_here (g.C.Cluster.takes c.args.cluster.now) c.args.author c.args.sid txn (g.C.Cluster.zero c.args.cluster.now) c.requires.legal (g.P.Patterns.refused c.args.patterns.now) txn.schema (graph txn) (upsert_of text) c.in-Err-TooDeep.offset c.from-in-Err-TooDeep.result at read

pub returns-in-Err-BadSyntax-clause-ok : goal.returns-in-Err-BadSyntax-clause-ok
returns-in-Err-BadSyntax-clause-ok g c =
    let txn = c.args.txn.now in
    let text = c.args.text.now in
    let at : c.from-in-Err-BadSyntax.result ≡ c.in-Err-BadSyntax.offset = c.from-in-Err-BadSyntax.ensures ∙ c.in-Err-BadSyntax.offset-is in
    let read : upsert_of text ≡ Err (texts.BadSyntax c.in-Err-BadSyntax.offset) = subst (λ (f : DqlFault). Refuses f (upsert_of text)) c.in-Err-BadSyntax.field-0-is c.in-Err-BadSyntax.ensures in
    syntax_here (g.C.Cluster.takes c.args.cluster.now) c.args.author c.args.sid txn (g.C.Cluster.zero c.args.cluster.now) c.requires.legal (g.P.Patterns.refused c.args.patterns.now) txn.schema (graph txn) (upsert_of text) c.in-Err-BadSyntax.offset c.from-in-Err-BadSyntax.result at read
