use Rattle.std.proofs.Common.{◌≡◌, ℕ, ◌+◌, ◌<◌, ◌≤◌, List, [], take, length, get_or, sym, ap, ◌∙◌, subst, arith}
use Rattle.std.specs.Prelude.{slice_range}
use Rattle.std.specs.Str.{IsCharBoundary}
use Rattle.std.proofs.lemmas.List.{get_or_past}
use Rattle.dg_level.specs.Rows.{Written}
use Rattle.dg_level.specs.Keeping.{last_end}
use Rattle.dg_level.proofs.KeepLemmas.{rows_long, boundary, in_order, row_at_place}
use Rattle.dg_level.proofs.rows.Rows.get.Goals as goal

pub returns-then-place-len : goal.returns-then-place-len
returns-then-place-len c =
    let past : length c.args.self.now.rows ≤ c.args.place =
    omega (arith, c.len.ensures, c.self.inside.ends.ok, rows_long c.self.inside.text 0 c.self.inside.ends.items, ap (λ (w : Written). length w.rows) c.self.view_is, c.if-place-len.true) in
    sym (get_or_past c.args.self.now.rows c.args.place [] past)

pub range-requires-clause-start_le_end : goal.range-requires-clause-start_le_end
range-requires-clause-start_le_end c =
    let ends = c.self.inside.ends.items in
    let from : c.start_of-from.result ≡ last_end 0 (take c.args.place ends) = c.start_of-from.ensures ∙ ap (λ (e : List ℕ). last_end 0 (take c.args.place e)) c.as_slice.ensures.value in
    let end : c.start_of-end.result ≡ last_end 0 (take (c.args.place + 1) ends) = c.start_of-end.ensures ∙ ap (λ (e : List ℕ). last_end 0 (take (c.args.place + 1) e)) c.as_slice-2.ensures.value in
    omega (arith, from, end, in_order c.self.invariant c.args.place)

pub range-requires-clause-start_boundary : goal.range-requires-clause-start_boundary
range-requires-clause-start_boundary c = λ _.
    let from : c.start_of-from.result ≡ last_end 0 (take c.args.place c.self.inside.ends.items) = c.start_of-from.ensures ∙ ap (λ (e : List ℕ). last_end 0 (take c.args.place e)) c.as_slice.ensures.value in
    subst (λ (t : List ℕ). IsCharBoundary t c.start_of-from.result) (sym c.as_str.ensures) (subst (λ (n : ℕ). IsCharBoundary c.self.inside.text n) (sym from) (boundary c.self.invariant c.args.place))

pub range-requires-clause-end_boundary : goal.range-requires-clause-end_boundary
range-requires-clause-end_boundary c =
    let end : c.start_of-end.result ≡ last_end 0 (take (c.args.place + 1) c.self.inside.ends.items) = c.start_of-end.ensures ∙ ap (λ (e : List ℕ). last_end 0 (take (c.args.place + 1) e)) c.as_slice-2.ensures.value in
    subst (λ (t : List ℕ). IsCharBoundary t c.start_of-end.result) (sym c.as_str.ensures) (subst (λ (n : ℕ). IsCharBoundary c.self.inside.text n) (sym end) (boundary c.self.invariant (c.args.place + 1)))

pub returns : goal.returns
returns c =
    let ends = c.self.inside.ends.items in
    let text = c.self.inside.text in
    let from : c.start_of-from.result ≡ last_end 0 (take c.args.place ends) = c.start_of-from.ensures ∙ ap (λ (e : List ℕ). last_end 0 (take c.args.place e)) c.as_slice.ensures.value in
    let end : c.start_of-end.result ≡ last_end 0 (take (c.args.place + 1) ends) = c.start_of-end.ensures ∙ ap (λ (e : List ℕ). last_end 0 (take (c.args.place + 1) e)) c.as_slice-2.ensures.value in
    let lt : c.args.place < length ends = omega (arith, c.len.ensures, c.self.inside.ends.ok, c.if-place-len.false) in
    let said : c.as_str.result.now ≡ text = c.as_str.ensures in
    c.range.ensures.value
    ∙ (λ i. slice_range (said i) (from i) (end i))
    ∙ row_at_place text ends c.args.place lt
    ∙ ap (λ (w : Written). get_or w.rows c.args.place []) c.self.view_is
