use Rattle.std.proofs.Common.{◌≡◌, ℕ, ap, ◌∙◌}
use Rattle.std.specs.Prelude.{◌&&◌, not}
use Rattle.std.specs.Ordering.{nat_cmp}
use Rattle.std.proofs.lemmas.Result.{IfOk-weaker}
use Rattle.dg_values.specs.Ascending.{ascending, has}
use Rattle.dg_uids.specs.Sets.{lacking}
use Rattle.dg_level.specs.Looping.{pieces_by, nodes_fetched}
use Rattle.dg_level.specs.Reaching.{one_step}
use Rattle.dg_level.proofs.ReachLaws.{fetched_step, lacks}
use Rattle.dg_level.proofs.reaching.new_ones.Goals as goal

pub returns : goal.returns
returns c = λ graph vars pieces are.
    let step = c.args.step.now in
    let found = c.args.found.now in
    let next = c.in_ok-next.next in
    let leads : (u : ℕ) → has nat_cmp next u ≡ has nat_cmp (one_step (pieces_by pieces) step.nodes) u =
    λ u. ap (λ l. has nat_cmp l u) (c.in_ok-next.ensures ∙ ap (λ fs. ascending nat_cmp (nodes_fetched fs)) c.as_slice.ensures.value) ∙ fetched_step graph vars step.nodes step.all.items pieces are u in
    IfOk-weaker c.without.result (λ uids. uids ≡ lacking next found) (λ uids. (u : ℕ) → has nat_cmp uids u ≡ (not (has nat_cmp found u) && has nat_cmp (one_step (pieces_by pieces) step.nodes) u))
    (λ uids is u. ap (λ l. has nat_cmp l u) is ∙ (lacks next found u ∙ λ j. not (has nat_cmp found u) && leads u j)) c.without.ensures
