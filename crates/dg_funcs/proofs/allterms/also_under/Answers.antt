use Rattle.std.proofs.Common.{◌≡◌, true, ◌<◌, take, length, get_or, ap, sym, ◌∙◌, arith}
use Rattle.std.specs.Prelude.{filter}
use Rattle.std.specs.List.{list_all}
use Rattle.std.specs.Ordering.{nat_cmp}
use Rattle.dg_values.specs.Ascending.{has}
use Rattle.dg_funcs.specs.Listed.{under, is_under}
use Rattle.dg_funcs.proofs.PassLaws.{filter_same, filter_true, take_none, all_more}
use Rattle.dg_funcs.proofs.allterms.also_under.Goals as goal

pub loop-value-init : goal.loop-value-init
loop-value-init g c =
    let graph = g.S.Snapshot.graph c.args.snap.now in
    let listed = is_under graph c.args.p.now c.args.tokenizer in
    let values = c.args.values.now in
    (sym (filter_same (λ n. list_all (listed n) (take 0 values)) (λ n. true) c.args.nodes (λ n h. ap (list_all (listed n)) (take_none values)) ∙ filter_true c.args.nodes), omega arith)

pub loop-value-preserved : goal.loop-value-preserved
loop-value-preserved g c =
    let graph = g.S.Snapshot.graph c.args.snap.now in
    let p = c.args.p.now in
    let tokenizer = c.args.tokenizer in
    let values = c.args.values.now in
    let i = c.loop-value.value-index in
    let lt : i < length values = omega (arith, c.loop-value-test.true) in
    let here : c.in_ok-listed.listed ≡ under graph p tokenizer (get_or values i c.value-item.result) = c.in_ok-listed.ensures.nodes ∙ ap (under graph p tokenizer) c.value-item.is in (
      c.in_ok-left.ensures ∙ ((λ j. filter (λ n. has nat_cmp (here j) n) (c.loop-value.invariant.0 j)) ∙ all_more (λ n v. is_under graph p tokenizer n v) values i c.value-item.result c.args.nodes lt),
      omega (arith, c.loop-value.invariant.1, c.in_ok-listed.ensures.reads),
    )
