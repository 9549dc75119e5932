use Rattle.std.proofs.Common.{◌≡◌, ℕ, List, sym, subst, ◌∙◌}
use Rattle.std.specs.Prelude.{◌&&◌, IfOk}
use Rattle.std.specs.Ordering.{int_cmp, is_le, is_lt, is_ge, is_gt}
use Rattle.dg_funcs.specs.Numbers.{numbered, standing}
use Rattle.dg_funcs.proofs.NumberLaws.{equal_is}
use Rattle.dg_funcs.proofs.numbers.standing.Goals as goal

pub returns-in-Eq : goal.returns-in-Eq
returns-in-Eq g c =
    let graph = g.S.Snapshot.graph c.args.snap.now in
    let edge = c.args.edge.now in
    let n = c.args.n.now in
    let back = sym c.in-Eq.is in
    let e : numbered graph edge (λ k. is_ge (int_cmp k n) && is_le (int_cmp k n)) ≡ standing graph edge c.args.op n = equal_is graph edge n ∙ λ i. standing graph edge (back i) n in
    subst (λ (ys : List ℕ). IfOk c.between.result (λ uids. uids ≡ ys)) e c.between.ensures

pub returns-in-Le : goal.returns-in-Le
returns-in-Le g c =
    let graph = g.S.Snapshot.graph c.args.snap.now in
    let edge = c.args.edge.now in
    let n = c.args.n.now in
    let back = sym c.in-Le.is in
    let e : numbered graph edge (λ k. is_le (int_cmp k n)) ≡ standing graph edge c.args.op n = λ i. standing graph edge (back i) n in
    subst (λ (ys : List ℕ). IfOk c.up_to.result (λ uids. uids ≡ ys)) e c.up_to.ensures

pub returns-in-Lt : goal.returns-in-Lt
returns-in-Lt g c =
    let graph = g.S.Snapshot.graph c.args.snap.now in
    let edge = c.args.edge.now in
    let n = c.args.n.now in
    let back = sym c.in-Lt.is in
    let e : numbered graph edge (λ k. is_lt (int_cmp k n)) ≡ standing graph edge c.args.op n = λ i. standing graph edge (back i) n in
    subst (λ (ys : List ℕ). IfOk c.below.result (λ uids. uids ≡ ys)) e c.below.ensures

pub returns-in-Ge : goal.returns-in-Ge
returns-in-Ge g c =
    let graph = g.S.Snapshot.graph c.args.snap.now in
    let edge = c.args.edge.now in
    let n = c.args.n.now in
    let back = sym c.in-Ge.is in
    let e : numbered graph edge (λ k. is_ge (int_cmp k n)) ≡ standing graph edge c.args.op n = λ i. standing graph edge (back i) n in
    subst (λ (ys : List ℕ). IfOk c.from_on.result (λ uids. uids ≡ ys)) e c.from_on.ensures

pub returns-in-Gt : goal.returns-in-Gt
returns-in-Gt g c =
    let graph = g.S.Snapshot.graph c.args.snap.now in
    let edge = c.args.edge.now in
    let n = c.args.n.now in
    let back = sym c.in-Gt.is in
    let e : numbered graph edge (λ k. is_gt (int_cmp k n)) ≡ standing graph edge c.args.op n = λ i. standing graph edge (back i) n in
    subst (λ (ys : List ℕ). IfOk c.above.result (λ uids. uids ≡ ys)) e c.above.ensures
