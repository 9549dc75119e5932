use Rattle.std.proofs.Common.{arith, sym, ap, ◌∙◌}
use Rattle.dg_turn.proofs.EachStep.{hands_over, clash, never_steps}
use Rattle.dg_turn.proofs.Ties.{turn_id, held_turn}
use Rattle.dg_turn.proofs.laws.never_two_held.Goals as goal

pub split_seat-whole-requires : goal.split_seat-whole-requires
split_seat-whole-requires g c =
    let seat = c.other.inside.seat in
    (ap held_turn c.other.view_is ∙ c.requires.other ∙ sym (ap turn_id c.turn.view_is), omega arith, hands_over g.S.Logged.history g.S.Logged.author c.turn.inside.table.shared.key seat.id seat.me.0)

pub join_seat-requires : goal.join_seat-requires
join_seat-requires g c =
    let id = sym (ap turn_id c.turn.view_is) in
    let mine = c.one.inside.seat in
    let whole = c.split_seat-whole.result in
    let split = c.split_seat-whole.ensures in (
      ap held_turn c.one.view_is ∙ c.requires.one ∙ id,
      split.3 ∙ ap held_turn c.other.view_is ∙ c.requires.other ∙ id,
      ap (λ z. z.1) split.4,
      omega arith,
      clash g.S.Logged.history g.S.Logged.author c.turn.inside.table.shared.key mine.id whole.id mine.me.0 whole.me.0 (ap (λ z. z.0.stage) c.one.invariant) (ap (λ z. z.0.stage) split.4 ∙ ap (λ z. z.0.stage) c.other.invariant),
    )

pub load-requires : goal.load-requires
load-requires g c =
    let seat = c.join_seat.new.seat in (
      c.join_seat.ensures.0 ∙ ap held_turn c.one.view_is ∙ c.requires.one ∙ sym (ap turn_id c.turn.view_is),
      omega arith,
      never_steps g.S.Logged.history g.S.Logged.author c.turn.inside.table.shared.key c.turn.inside.table.shared.table_id.slots seat.id seat.me (ap (λ z. z.0) c.join_seat.ensures.2),
    )
