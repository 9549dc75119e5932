use Rattle.std.proofs.Common.{◌≡◌, ℕ, ◌<◌, ◌≤◌, true, false, List, length, sym, ap, ◌∙◌, arith, subst}
use Rattle.std.proofs.lemmas.List.{take_all}
use Rattle.std.proofs.lemmas.List.Folds.{list_any_at, list_any_more}
use Rattle.std.specs.Prelude.{◌||◌}
use Rattle.std.specs.Ordering.{nat_cmp}
use Rattle.dg_values.specs.Ascending.{has}
use Rattle.dg_sets.specs.Placing.{StandsAt}
use Rattle.dg_level.specs.declared.looped.Fetched.{Fetched}
use Rattle.dg_level.specs.declared.reaching.Step.{Step}
use Rattle.dg_level.specs.Looping.{AreFetched}
use Rattle.dg_level.specs.Placing.{leads_from}
use Rattle.dg_level.specs.Reaching.{is_near}
use Rattle.dg_level.proofs.LoopRows.{one_of}
use Rattle.dg_level.proofs.placing.list_from.Goals as goal

pub returns-in-Ok : goal.returns-in-Ok
returns-in-Ok c = λ graph vars pieces piece are there.
    let node = c.args.node in
    let steps = c.args.steps.now in
    let i = c.loop-step.step-index in
    let step = c.step-item.result in
    let lt : i < length steps = omega (arith, c.loop-step-test.true) in
    let stands : StandsAt nat_cmp step.nodes node c.in-Ok.place = subst (λ (l : List ℕ). StandsAt nat_cmp l node c.in-Ok.place) c.as_slice.ensures.items c.in-Ok.ensures.there in
    let near : is_near steps node ≡ true =
    list_any_at (λ (s : Step). has nat_cmp s.nodes node) steps i step lt (ap (λ (s : Step). has nat_cmp s.nodes node) (sym c.step-item.is) ∙ stands.there) in
    let is : AreFetched graph vars step.nodes step.all.items pieces =
    subst (λ (s : Step). AreFetched graph vars s.nodes s.all.items pieces) (sym c.step-item.is) (one_of (λ (s : Step). AreFetched graph vars s.nodes s.all.items pieces) steps i step are lt) in
    c.list_of.ensures graph vars step.nodes pieces piece node (subst (λ (fs : List Fetched). AreFetched graph vars step.nodes fs pieces) (sym c.as_slice-in-Ok.ensures.value) is) there stands.item_is
    ∙ sym (ap (λ b. leads_from (λ n. b) piece node) near)

pub loop-step-preserved : goal.loop-step-preserved
loop-step-preserved c =
    let node = c.args.node in
    let steps = c.args.steps.now in
    let l = c.loop-step in
    let step = c.step-item.result in
    let lt : l.step-index < length steps = omega (arith, c.loop-step-test.true) in
    let missing : has nat_cmp step.nodes node ≡ false = ap (λ (ns : List ℕ). has nat_cmp ns node) (sym c.as_slice.ensures.items) ∙ c.in_default.ensures.missing.missing in
    list_any_more (λ (s : Step). has nat_cmp s.nodes node) steps l.step-index step lt
    ∙ (λ j. l.invariant j || (ap (λ (s : Step). has nat_cmp s.nodes node) (sym c.step-item.is) ∙ missing) j)

pub returns : goal.returns
returns c = λ graph vars pieces piece are there.
    let node = c.args.node in
    let steps = c.args.steps.now in
    let past : length steps ≤ c.loop-step.step-index = omega (arith, c.loop-step-test.false) in
    let none : is_near steps node ≡ false = sym (ap (λ (ss : List Step). is_near ss node) (take_all c.loop-step.step-index steps past)) ∙ c.loop-step.invariant in
    sym (ap (λ b. leads_from (λ n. b) piece node) none)
