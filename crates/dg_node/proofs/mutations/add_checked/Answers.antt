use Rattle.std.proofs.Common.{List, Ok, Err, ap, ◌∙◌, subst}
use Rattle.std.specs.Prelude.{Result, IfOk}
use Rattle.dg_edges.specs.declared.edge.Edge.{Edge}
use Rattle.dg_edges.specs.declared.fault.EdgeFault.{EdgeFault}
use Rattle.dg_edges.specs.declared.fault.EdgeFault.TheVariants as faults
use Rattle.dg_edges.specs.Resolving.{Resolves, IsResolved}
use Rattle.dg_node.proofs.MutationLemmas.{unless_memory}
use Rattle.dg_node.proofs.Leasing.{refused_here, ok_checked, err_checked}
use Rattle.dg_node.proofs.mutations.add_checked.Goals as goal

pub lease-requires-clause-resolved : goal.lease-requires-clause-resolved
lease-requires-clause-resolved g c = subst (λ (r : Result (List Edge) EdgeFault). IfOk r (IsResolved c.args.txn.now.schema)) c.in-Ok.is c.requires.resolved

pub returns-in-Ok-clause-ok : goal.returns-in-Ok-clause-ok
returns-in-Ok-clause-ok g c = λ statements answer.
    let resolves : Resolves c.args.txn.now.schema statements (Ok c.in-Ok.resolved) = unless_memory (Resolves c.args.txn.now.schema statements) c.args.checked (Ok c.in-Ok.resolved) c.in-Ok.is answer in
    ok_checked (g.C.Cluster.takes c.args.cluster.now) c.args.author c.args.sid c.args.txn.now (g.C.Cluster.zero c.args.cluster.now) c.requires.legal c.requires.opened statements c.requires.own (g.C.Cluster.zero c.lease.new.cluster) c.in-Ok.resolved resolves c.lease.new.txn c.lease.result c.lease.ensures.ok

pub returns-in-Ok-clause-err : goal.returns-in-Ok-clause-err
returns-in-Ok-clause-err g c = λ statements answer.
    let resolves : Resolves c.args.txn.now.schema statements (Ok c.in-Ok.resolved) = unless_memory (Resolves c.args.txn.now.schema statements) c.args.checked (Ok c.in-Ok.resolved) c.in-Ok.is answer in
    err_checked (g.C.Cluster.takes c.args.cluster.now) c.args.author c.args.sid c.args.txn.now (g.C.Cluster.zero c.args.cluster.now) c.requires.legal c.requires.opened statements c.requires.own (g.C.Cluster.zero c.lease.new.cluster) c.in-Ok.resolved resolves c.lease.new.txn c.lease.result c.lease.ensures.err

pub returns-in-Err-NoPredicate-clause-ok : goal.returns-in-Err-NoPredicate-clause-ok
returns-in-Err-NoPredicate-clause-ok g c = rw c.in-Err-NoPredicate.field-0-is (λ statements answer.
    let fault : Result (List Edge) EdgeFault = Err (faults.NoPredicate c.in-Err-NoPredicate.pred) in
    let said : Resolves c.args.txn.now.schema statements fault = unless_memory (Resolves c.args.txn.now.schema statements) c.args.checked fault (c.in-Err-NoPredicate.is ∙ ap Err c.in-Err-NoPredicate.field-0-is) answer in
    refused_here (g.C.Cluster.takes c.args.cluster.now) c.args.author c.args.sid c.args.txn.now (g.C.Cluster.zero c.args.cluster.now) c.requires.legal c.requires.opened statements (faults.NoPredicate c.in-Err-NoPredicate.pred) said)

pub returns-in-Err-WrongObject-clause-ok : goal.returns-in-Err-WrongObject-clause-ok
returns-in-Err-WrongObject-clause-ok g c = rw c.in-Err-WrongObject.field-0-is (λ statements answer.
    let fault : Result (List Edge) EdgeFault = Err (faults.WrongObject c.in-Err-WrongObject.pred) in
    let said : Resolves c.args.txn.now.schema statements fault = unless_memory (Resolves c.args.txn.now.schema statements) c.args.checked fault (c.in-Err-WrongObject.is ∙ ap Err c.in-Err-WrongObject.field-0-is) answer in
    refused_here (g.C.Cluster.takes c.args.cluster.now) c.args.author c.args.sid c.args.txn.now (g.C.Cluster.zero c.args.cluster.now) c.requires.legal c.requires.opened statements (faults.WrongObject c.in-Err-WrongObject.pred) said)

pub returns-in-Err-BadLiteral-clause-ok : goal.returns-in-Err-BadLiteral-clause-ok
returns-in-Err-BadLiteral-clause-ok g c = rw c.in-Err-BadLiteral.field-0-is (λ statements answer.
    let fault : Result (List Edge) EdgeFault = Err (faults.BadLiteral c.in-Err-BadLiteral.pred) in
    let said : Resolves c.args.txn.now.schema statements fault = unless_memory (Resolves c.args.txn.now.schema statements) c.args.checked fault (c.in-Err-BadLiteral.is ∙ ap Err c.in-Err-BadLiteral.field-0-is) answer in
    refused_here (g.C.Cluster.takes c.args.cluster.now) c.args.author c.args.sid c.args.txn.now (g.C.Cluster.zero c.args.cluster.now) c.requires.legal c.requires.opened statements (faults.BadLiteral c.in-Err-BadLiteral.pred) said)
