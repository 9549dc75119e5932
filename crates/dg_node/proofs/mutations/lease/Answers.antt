use Rattle.std.proofs.Common.{◌≡◌, ◌≢◌, List, [], length, ap, sym, ◌∙◌, arith}
use Rattle.std.proofs.lemmas.Bool.{true≢false}
use Rattle.dg_edges.specs.declared.edge.Edge.{Edge}
use Rattle.dg_edges.specs.Expanding.{new_names}
use Rattle.dg_node.proofs.Leasing.{checked_fits, spent_leased, spent_open, ok_leased, err_leased, leased_open}
use Rattle.dg_node.proofs.mutations.lease.Goals as goal

pub take-requires-clause-fitting : goal.take-requires-clause-fitting
take-requires-clause-fitting g c =
    checked_fits (g.C.Cluster.zero c.args.cluster.now) c.args.author c.args.txn.now c.args.resolved.now c.in-Ok.first c.requires.legal c.requires.opened c.requires.resolved

pub returns-clause-ok : goal.returns-clause-ok
returns-clause-ok g c =
    let edges : List Edge = c.args.resolved.now in
    let some : edges ≢ [] = λ e. absurd (true≢false (sym (c.is_empty.ensures.1 e) ∙ c.if-is_empty.false)) in
    let named = ap length c.in_ok-names.ensures in
    let count : c.len-count.result ≡ length (new_names edges) = omega (arith, c.len-count.ensures, c.in_ok-names.names.ok, named) in
    ok_leased (g.C.Cluster.takes c.args.cluster.now) c.args.author c.args.sid c.in_ok-slip.slip c.args.txn.now (g.C.Cluster.zero c.args.cluster.now) (g.C.Cluster.zero c.lease.new.self)
    c.requires.own c.requires.opened edges c.top_uid.result c.len-count.result some c.top_uid.ensures count c.in_ok-slip.ensures c.in-Ok.first c.in-Ok.ensures.leases
    c.take.result c.take.new.txn c.take.ensures.reply c.take.ensures.ok

pub returns-clause-err : goal.returns-clause-err
returns-clause-err g c =
    let edges : List Edge = c.args.resolved.now in
    let some : edges ≢ [] = λ e. absurd (true≢false (sym (c.is_empty.ensures.1 e) ∙ c.if-is_empty.false)) in
    let named = ap length c.in_ok-names.ensures in
    let count : c.len-count.result ≡ length (new_names edges) = omega (arith, c.len-count.ensures, c.in_ok-names.names.ok, named) in
    err_leased (g.C.Cluster.takes c.args.cluster.now) c.args.author c.args.sid c.in_ok-slip.slip c.args.txn.now (g.C.Cluster.zero c.args.cluster.now) (g.C.Cluster.zero c.lease.new.self)
    c.requires.own c.requires.opened edges c.top_uid.result c.len-count.result some c.top_uid.ensures count c.in_ok-slip.ensures c.in-Ok.first c.in-Ok.ensures.leases
    c.take.result c.take.new.txn c.take.ensures.err

pub returns-clause-opened : goal.returns-clause-opened
returns-clause-opened g c =
    let edges : List Edge = c.args.resolved.now in
    let z = g.C.Cluster.zero c.args.cluster.now in
    let some : edges ≢ [] = λ e. absurd (true≢false (sym (c.is_empty.ensures.1 e) ∙ c.if-is_empty.false)) in
    let named = ap length c.in_ok-names.ensures in
    let count : c.len-count.result ≡ length (new_names edges) = omega (arith, c.len-count.ensures, c.in_ok-names.names.ok, named) in
    leased_open (g.C.Cluster.takes c.args.cluster.now) c.args.author c.args.sid c.in_ok-slip.slip c.args.txn.now z (g.C.Cluster.zero c.lease.new.self)
    c.requires.own c.requires.opened edges c.top_uid.result c.len-count.result some c.top_uid.ensures count c.in_ok-slip.ensures c.in-Ok.first c.in-Ok.ensures.leases
    c.take.result c.take.new.txn c.in-Ok.ensures.legal (checked_fits z c.args.author c.args.txn.now edges c.in-Ok.first c.requires.legal c.requires.opened c.requires.resolved) c.take.ensures.ok c.take.ensures.err

pub returns-in-Err-UidsSpent-clause-ok : goal.returns-in-Err-UidsSpent-clause-ok
returns-in-Err-UidsSpent-clause-ok g c = rw c.in-Err-UidsSpent.field-0-is (
    let edges : List Edge = c.args.resolved.now in
    let some : edges ≢ [] = λ e. absurd (true≢false (sym (c.is_empty.ensures.1 e) ∙ c.if-is_empty.false)) in
    let named = ap length c.in_ok-names.ensures in
    let count : c.len-count.result ≡ length (new_names edges) = omega (arith, c.len-count.ensures, c.in_ok-names.names.ok, named) in
    let met = rw c.in-Err-UidsSpent.field-0-is at c.in-Err-UidsSpent.ensures.leases in
    spent_leased (g.C.Cluster.takes c.args.cluster.now) c.args.author c.args.sid c.in_ok-slip.slip c.args.txn.now (g.C.Cluster.zero c.args.cluster.now) (g.C.Cluster.zero c.lease.new.self)
    c.requires.own c.requires.opened edges c.top_uid.result c.len-count.result some c.top_uid.ensures count c.in_ok-slip.ensures c.in-Err-UidsSpent.next met)

pub returns-in-Err-UidsSpent-clause-opened : goal.returns-in-Err-UidsSpent-clause-opened
returns-in-Err-UidsSpent-clause-opened g c =
    let edges : List Edge = c.args.resolved.now in
    let some : edges ≢ [] = λ e. absurd (true≢false (sym (c.is_empty.ensures.1 e) ∙ c.if-is_empty.false)) in
    let named = ap length c.in_ok-names.ensures in
    let count : c.len-count.result ≡ length (new_names edges) = omega (arith, c.len-count.ensures, c.in_ok-names.names.ok, named) in
    let met = rw c.in-Err-UidsSpent.field-0-is at c.in-Err-UidsSpent.ensures.leases in
    spent_open (g.C.Cluster.takes c.args.cluster.now) c.args.author c.args.sid c.in_ok-slip.slip c.args.txn.now (g.C.Cluster.zero c.args.cluster.now) (g.C.Cluster.zero c.lease.new.self)
    c.requires.own c.requires.opened edges c.top_uid.result c.len-count.result some c.top_uid.ensures count c.in_ok-slip.ensures c.in-Err-UidsSpent.next c.in-Err-UidsSpent.ensures.legal met
