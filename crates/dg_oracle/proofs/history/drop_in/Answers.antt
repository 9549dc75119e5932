use Rattle.std.proofs.Common.{◌≡◌, ◌∙◌, List, ap, length, map, sym, refl, arith}
use Rattle.std.proofs.lemmas.List.Edits.{map_over_more}
use Rattle.std.proofs.lemmas.List.{with_items_is}
use Rattle.dg_oracle.specs.Histories.{Layer, cut_above}
use Rattle.dg_oracle.proofs.Views.{map_over_all}
use Rattle.dg_oracle.proofs.history.drop_in.Goals as goal

pub loop-run-init : goal.loop-run-init
loop-run-init g c = refl

pub loop-run-preserved : goal.loop-run-preserved
loop-run-preserved g c =
    let cut : c.drop_up_to.new.self ≡ cut_above c.args.line c.run-item.result = c.drop_up_to.ensures ∙ ap (λ (r : Layer g.row.K.Denot). cut_above c.args.line r) (sym c.run-item.is) in
    rw cut (map_over_more (cut_above c.args.line) c.deref_mut-run-items.result.now c.loop-run.run-items c.loop-run.run-index c.run-item.result c.loop-run-test.true c.loop-run.invariant c.run-item.is)

pub returns : goal.returns
returns g c =
    let all : c.loop-run.run-items ≡ map (cut_above c.args.line) c.deref_mut-run-items.result.now = map_over_all (cut_above c.args.line) c.deref_mut-run-items.result.now c.loop-run.run-items c.loop-run.run-index (omega (arith, c.loop-run.auto.run-index-end)) c.loop-run.invariant in
    let long : length c.loop-run.run-items ≡ c.args.runs.now.len = c.loop-run.auto.run-items ∙ c.deref_mut-run-items.ensures.len in
    with_items_is c.args.runs.now c.loop-run.run-items long ∙ (all ∙ ap (λ (rs : List (Layer g.row.K.Denot)). map (cut_above c.args.line) rs) c.deref_mut-run-items.ensures.value)
