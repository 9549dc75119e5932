use Rattle.std.proofs.Common.{◌≡◌, ◌≤◌, ℕ, length, inr, ◌∙◌, arith, rules}
use Rattle.dg_wire.specs.declared.frames.FrameFault.TheVariants as faults
use Rattle.dg_wire.specs.Reading.{taken_of, INPUT_LIMIT}
use Rattle.dg_wire.proofs.TakingLemmas.{Takes-then}
use Rattle.dg_wire.proofs.ReadingLemmas.{answers_next, broken_at, ends_within}
use Rattle.dg_wire.proofs.frames.Frames.find.Goals as goal

pub returns-then-not-branch-clause-taken : goal.returns-then-not-branch-clause-taken
returns-then-not-branch-clause-taken g c = Takes-then _ _ _ _ _ _ c.pieces.invariant.taken c.take_more.ensures.taken

same_offset : (a b : ℕ) → faults.BadFrame a ≡ faults.BadFrame b → a ≡ b
same_offset a b e = cc

pub returns-then-not-branch-clause-bad_frame : goal.returns-then-not-branch-clause-bad_frame
returns-then-not-branch-clause-bad_frame g c = λ offset e.
    let said = rw e at c.at_end.ensures.err in
    let found = rw (c.in-Partial.is, c.within_limit.ensures) at c.in_ok-request.ensures.found in
    let short : length (taken_of c.pieces.self) ≤ INPUT_LIMIT = grind (arith, c.if-is_long.ensures) in
    let end = rw c.if-not-branch.true at c.in_ok-take_more.ensures.end in (
      same_offset offset (length c.take_more.new.self.answered) said.0,
      inr (ends_within c.pieces.self c.take_more.new.self _ short found.0 found.1 c.take_more.ensures.answered end.1 said.1 end.0),
    )

pub returns-in_err-request-clause-taken : goal.returns-in_err-request-clause-taken
returns-in_err-request-clause-taken g c = search (rules, c.pieces.invariant)

pub returns-in_err-request-clause-request : goal.returns-in_err-request-clause-request
returns-in_err-request-clause-request g c = search (rules, c.well_formed, c.pieces.invariant)

pub returns-in_err-request-clause-end : goal.returns-in_err-request-clause-end
returns-in_err-request-clause-end g c = search (rules, c.well_formed, c.pieces.invariant)

pub returns-in_err-request-clause-err : goal.returns-in_err-request-clause-err
returns-in_err-request-clause-err g c = search (rules, c.well_formed, c.pieces.invariant)

pub returns-in_err-request-clause-bad_frame : goal.returns-in_err-request-clause-bad_frame
returns-in_err-request-clause-bad_frame g c = search (rules, c.well_formed, c.pieces.invariant)

pub returns-in_err-request-clause-too_long : goal.returns-in_err-request-clause-too_long
returns-in_err-request-clause-too_long g c = search (rules, c.well_formed, c.pieces.invariant)

pub returns-in_err-request-clause-broken : goal.returns-in_err-request-clause-broken
returns-in_err-request-clause-broken g c = search (rules, c.well_formed, c.pieces.invariant)

pub returns-in_err-request-clause-read_fault : goal.returns-in_err-request-clause-read_fault
returns-in_err-request-clause-read_fault g c = search (rules, c.well_formed, c.pieces.invariant)

pub returns-in_err-request-clause-later : goal.returns-in_err-request-clause-later
returns-in_err-request-clause-later g c = search (rules, c.well_formed, c.pieces.invariant)

pub returns-in_err-take_more-clause-taken : goal.returns-in_err-take_more-clause-taken
returns-in_err-take_more-clause-taken g c = Takes-then _ _ _ _ _ _ c.pieces.invariant.taken c.take_more.ensures.taken

pub returns-in_err-take_more-clause-request : goal.returns-in_err-take_more-clause-request
returns-in_err-take_more-clause-request g c = search (rules, c.well_formed, c.pieces.invariant)

pub returns-in_err-take_more-clause-end : goal.returns-in_err-take_more-clause-end
returns-in_err-take_more-clause-end g c = search (rules, c.well_formed, c.pieces.invariant)

pub returns-in_err-take_more-clause-err : goal.returns-in_err-take_more-clause-err
returns-in_err-take_more-clause-err g c = search (rules, c.well_formed, c.pieces.invariant)

pub returns-in_err-take_more-clause-bad_frame : goal.returns-in_err-take_more-clause-bad_frame
returns-in_err-take_more-clause-bad_frame g c = search (rules, c.well_formed, c.pieces.invariant)

pub returns-in_err-take_more-clause-too_long : goal.returns-in_err-take_more-clause-too_long
returns-in_err-take_more-clause-too_long g c = search (rules, c.well_formed, c.pieces.invariant)

pub returns-in_err-take_more-clause-read_fault : goal.returns-in_err-take_more-clause-read_fault
returns-in_err-take_more-clause-read_fault g c = search (rules, c.well_formed, c.pieces.invariant)

pub returns-in_err-take_more-clause-later : goal.returns-in_err-take_more-clause-later
returns-in_err-take_more-clause-later g c = search (rules, c.well_formed, c.pieces.invariant)

pub returns-in-Whole-clause-request : goal.returns-in-Whole-clause-request
returns-in-Whole-clause-request g c =
    let found = rw (c.in-Whole.is, c.within_limit.ensures) at c.in_ok-request.ensures.found in
    answers_next c.args.self.now c.pieces.self c.answer.new.self c.in-Whole.request c.in-Whole.len found.0 found.1 found.2 found.3 c.pieces.invariant.answered c.answer.ensures.answered

pub returns-in_err-take_more-clause-broken : goal.returns-in_err-take_more-clause-broken
returns-in_err-take_more-clause-broken g c = λ e.
    let found = rw (c.in-Partial.is, c.within_limit.ensures) at c.in_ok-request.ensures.found in
    let short : length (taken_of c.pieces.self) ≤ INPUT_LIMIT = grind (arith, c.if-is_long.ensures) in
    broken_at c.pieces.self c.take_more.new.self short found.0 found.1 c.take_more.ensures.answered c.in_err-take_more.ensures.err

pub pieces-preserved : goal.pieces-preserved
pieces-preserved g c = record {
  taken = Takes-then _ _ _ _ _ _ c.pieces.invariant.taken c.take_more.ensures.taken;
  answered = c.take_more.ensures.answered ∙ c.pieces.invariant.answered;
  later = omega (arith, c.pieces.invariant.later, c.take_more.ensures.cause.later);
}

pub pieces-smaller : goal.pieces-smaller
pieces-smaller g c =
    let short : length (taken_of c.pieces.self) ≤ INPUT_LIMIT = grind (arith, c.if-is_long.ensures) in
    let more = rw c.if-not-branch.false at c.in_ok-take_more.ensures.some in
    omega (arith, short, more)
