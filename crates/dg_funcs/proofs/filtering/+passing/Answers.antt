use Rattle.std.proofs.Common.{◌≡◌, ℕ, ◌<◌, ◌≤◌, true, false, not, List, length, take, sym, ap, subst, ◌∙◌, arith}
use Rattle.std.specs.Prelude.{IfOk, filter, ◌%◌, ◌==◌}
use Rattle.std.specs.List.{list_any, list_all}
use Rattle.std.proofs.lemmas.List.{take_all}
use Rattle.dg_uids.specs.Sets.{lacking}
use Rattle.dg_funcs.specs.Truth.{holds_at, passes, part_passes}
use Rattle.dg_funcs.proofs.FilterLaws.{turned, unturned, part_or, part_and, part_func}
use Rattle.dg_funcs.proofs.PassLaws.{filter_same, filter_true, take_none, lacking_passed, all_more, none_more, taken}
use Rattle.dg_funcs.proofs.filtering.+passing.Goals as goal

pub passing-returns-then-is_odd : goal.passing-returns-then-is_odd
passing-returns-then-is_odd g t c =
    let graph = g.S.Snapshot.graph c.args.snap.now in
    let vars = c.args.vars.now.variables in
    let nodes = c.args.nodes.now in
    let f = c.args.filter.now in
    let odd : (f.nots % 2 == 1) ≡ true = sym c.is_odd.ensures ∙ c.if-is_odd.true in
    let e : lacking nodes c.in_ok-pass.pass ≡ filter (λ n. passes graph vars n f) nodes =
    ap (lacking nodes) c.in_ok-pass.ensures ∙ (lacking_passed (λ n. part_passes graph vars n f.part) nodes ∙ λ i. filter (λ n. turned graph vars n f odd i) nodes) in
    subst (λ (ys : List ℕ). IfOk c.without.result (λ uids. uids ≡ ys)) e c.without.ensures

pub passing-returns-else-is_odd : goal.passing-returns-else-is_odd
passing-returns-else-is_odd g t c =
    let graph = g.S.Snapshot.graph c.args.snap.now in
    let vars = c.args.vars.now.variables in
    let f = c.args.filter.now in
    let even : (f.nots % 2 == 1) ≡ false = sym c.is_odd.ensures ∙ c.if-is_odd.false in
    c.in_ok-pass.ensures ∙ λ i. filter (λ n. unturned graph vars n f even i) c.args.nodes.now

pub passing_part-returns-in-Func : goal.passing_part-returns-in-Func
passing_part-returns-in-Func g t c =
    let graph = g.S.Snapshot.graph c.args.snap.now in
    let vars = c.args.vars.now.variables in
    let nodes = c.args.nodes.now in
    let f = c.in-Func.func in
    let back = sym c.in-Func.is in
    let e : filter (λ n. holds_at graph vars n f) nodes ≡ filter (λ n. part_passes graph vars n c.args.part.now) nodes =
    (λ i. filter (λ n. sym (part_func graph vars n f) i) nodes) ∙ λ i. filter (λ n. part_passes graph vars n (back i)) nodes in
    subst (λ (ys : List ℕ). IfOk c.held.result (λ uids. uids ≡ ys)) e c.held.ensures

pub passing_part-returns-in-And : goal.passing_part-returns-in-And
passing_part-returns-in-And g t c =
    let graph = g.S.Snapshot.graph c.args.snap.now in
    let vars = c.args.vars.now.variables in
    let nodes = c.args.nodes.now in
    let back = sym c.in-And.is in
    let e : filter (λ n. list_all (passes graph vars n) c.as_slice.result.now) nodes ≡ filter (λ n. part_passes graph vars n c.args.part.now) nodes =
    (λ i. filter (λ n. list_all (passes graph vars n) (c.as_slice.ensures i)) nodes)
    ∙ ((λ i. filter (λ n. sym (part_and graph vars n c.in-And.parts) i) nodes) ∙ λ i. filter (λ n. part_passes graph vars n (back i)) nodes) in
    subst (λ (ys : List ℕ). IfOk c.passing_all.result (λ uids. uids ≡ ys)) e c.passing_all.ensures

pub passing_part-returns-in-Or : goal.passing_part-returns-in-Or
passing_part-returns-in-Or g t c =
    let graph = g.S.Snapshot.graph c.args.snap.now in
    let vars = c.args.vars.now.variables in
    let nodes = c.args.nodes.now in
    let back = sym c.in-Or.is in
    let e : filter (λ n. list_any (passes graph vars n) c.as_slice-in-Or.result.now) nodes ≡ filter (λ n. part_passes graph vars n c.args.part.now) nodes =
    (λ i. filter (λ n. list_any (passes graph vars n) (c.as_slice-in-Or.ensures i)) nodes)
    ∙ ((λ i. filter (λ n. sym (part_or graph vars n c.in-Or.parts) i) nodes) ∙ λ i. filter (λ n. part_passes graph vars n (back i)) nodes) in
    subst (λ (ys : List ℕ). IfOk c.passing_any.result (λ uids. uids ≡ ys)) e c.passing_any.ensures

pub passing_all-loop-part-init : goal.passing_all-loop-part-init
passing_all-loop-part-init g t c =
    let graph = g.S.Snapshot.graph c.args.snap.now in
    let vars = c.args.vars.now.variables in
    let nodes = c.args.nodes.now in
    c.in_ok-left.ensures ∙ sym (filter_same (λ n. list_all (passes graph vars n) (take 0 c.args.parts.now)) (λ n. true) nodes (λ n h. ap (list_all (passes graph vars n)) (take_none c.args.parts.now)) ∙ filter_true nodes)

pub passing_all-loop-part-preserved : goal.passing_all-loop-part-preserved
passing_all-loop-part-preserved g t c =
    let graph = g.S.Snapshot.graph c.args.snap.now in
    let vars = c.args.vars.now.variables in
    let i = c.loop-part.part-index in
    let parts = c.args.parts.now in
    let lt : i < length parts = omega (arith, c.loop-part-test.true) in
    c.in_ok-left-2.ensures ∙ ((λ j. filter (λ n. passes graph vars n (c.part-item.is j)) (c.loop-part.invariant j))
    ∙ all_more (λ n p. passes graph vars n p) parts i c.part-item.result c.args.nodes.now lt)

pub passing_any-loop-part-init : goal.passing_any-loop-part-init
passing_any-loop-part-init g t c =
    let graph = g.S.Snapshot.graph c.args.snap.now in
    let vars = c.args.vars.now.variables in
    let nodes = c.args.nodes.now in
    c.in_ok-rest.ensures ∙ sym (filter_same (λ n. not (list_any (passes graph vars n) (take 0 c.args.parts.now))) (λ n. true) nodes (λ n h. ap (λ ps. not (list_any (passes graph vars n) ps)) (take_none c.args.parts.now)) ∙ filter_true nodes)

pub passing_any-loop-part-preserved : goal.passing_any-loop-part-preserved
passing_any-loop-part-preserved g t c =
    let graph = g.S.Snapshot.graph c.args.snap.now in
    let vars = c.args.vars.now.variables in
    let i = c.loop-part.part-index in
    let parts = c.args.parts.now in
    let rest = c.loop-part.rest in
    let lt : i < length parts = omega (arith, c.loop-part-test.true) in
    c.in_ok-rest-2.ensures ∙ ((λ j. lacking rest ((c.in_ok-pass.ensures ∙ λ k. filter (λ n. passes graph vars n (c.part-item.is k)) rest) j))
    ∙ none_more (λ n p. passes graph vars n p) parts i c.part-item.result c.args.nodes.now lt rest c.loop-part.invariant)

pub passing_any-returns : goal.passing_any-returns
passing_any-returns g t c =
    let graph = g.S.Snapshot.graph c.args.snap.now in
    let vars = c.args.vars.now.variables in
    let i = c.loop-part.part-index in
    let parts = c.args.parts.now in
    let nodes = c.args.nodes.now in
    let past : length parts ≤ i = omega (arith, c.loop-part-test.false) in
    let all : c.loop-part.rest ≡ filter (λ n. not (list_any (passes graph vars n) parts)) nodes =
    c.loop-part.invariant ∙ (λ j. filter (λ n. not (list_any (passes graph vars n) (take_all i parts past j))) nodes) in
    subst (λ (ys : List ℕ). IfOk c.without-2.result (λ uids. uids ≡ ys)) (taken (λ n. list_any (passes graph vars n) parts) nodes c.loop-part.rest all) c.without-2.ensures
