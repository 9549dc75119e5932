use Rattle.std.proofs.Common.{◌<◌, ◌∙◌, ℕ, List, length, sym, ap, arith}
use Rattle.dg_base.proofs.Groups.{has_at, has-at_on, read-at_low, read-at_on}
use Rattle.dg_base.proofs.reading.number_at.Goals as goal

pub bounds-bytes-at : goal.bounds-bytes-at
bounds-bytes-at c = has_at 9 c.args.at c.args.bytes.now c.requires.within

pub overflow_add-result : goal.overflow_add-result
overflow_add-result c =
    let within : c.args.at < length c.args.bytes.now = has_at 9 c.args.at c.args.bytes.now c.requires.within in
    omega arith

pub returns-then-group-lt128-clause-number : goal.returns-then-group-lt128-clause-number
returns-then-group-lt128-clause-number c =
    let within : c.args.at < length c.args.bytes.now = has_at 9 c.args.at c.args.bytes.now c.requires.within in
    c.from.ensures ∙ sym (ap (λ (p : ℕ × List ℕ). p.0) (read-at_low 9 c.args.at c.args.bytes.now within c.if-group-lt128.true))

pub returns-then-group-lt128-clause-next : goal.returns-then-group-lt128-clause-next
returns-then-group-lt128-clause-next c =
    let within : c.args.at < length c.args.bytes.now = has_at 9 c.args.at c.args.bytes.now c.requires.within in
    sym (ap (λ (p : ℕ × List ℕ). p.1) (read-at_low 9 c.args.at c.args.bytes.now within c.if-group-lt128.true))

pub overflow_add-at : goal.overflow_add-at
overflow_add-at c =
    let within : c.args.at < length c.args.bytes.now = has_at 9 c.args.at c.args.bytes.now c.requires.within in
    omega arith

pub groups_at-high-requires : goal.groups_at-high-requires
groups_at-high-requires c =
    let within : c.args.at < length c.args.bytes.now = has_at 9 c.args.at c.args.bytes.now c.requires.within in
    let has = has-at_on 9 c.args.at c.args.bytes.now within (omega arith) c.if-group-lt128.false in
    let read = ap (λ (p : ℕ × List ℕ). p.0) (read-at_on 9 c.args.at c.args.bytes.now within (omega arith) c.if-group-lt128.false) in
    record { within = sym has ∙ c.requires.within; fits = omega (arith, read, c.requires.fits) }

pub overflow_mul-result : goal.overflow_mul-result
overflow_mul-result c =
    let within : c.args.at < length c.args.bytes.now = has_at 9 c.args.at c.args.bytes.now c.requires.within in
    let read = ap (λ (p : ℕ × List ℕ). p.0) (read-at_on 9 c.args.at c.args.bytes.now within (omega arith) c.if-group-lt128.false) in
    omega (arith, read, c.requires.fits, c.groups_at-high.ensures.number)

pub overflow_add-result-2 : goal.overflow_add-result-2
overflow_add-result-2 c =
    let within : c.args.at < length c.args.bytes.now = has_at 9 c.args.at c.args.bytes.now c.requires.within in
    let read = ap (λ (p : ℕ × List ℕ). p.0) (read-at_on 9 c.args.at c.args.bytes.now within (omega arith) c.if-group-lt128.false) in
    omega (arith, read, c.requires.fits, c.groups_at-high.ensures.number, c.from-2.ensures)

pub returns-clause-number : goal.returns-clause-number
returns-clause-number c =
    let within : c.args.at < length c.args.bytes.now = has_at 9 c.args.at c.args.bytes.now c.requires.within in
    let read = ap (λ (p : ℕ × List ℕ). p.0) (read-at_on 9 c.args.at c.args.bytes.now within (omega arith) c.if-group-lt128.false) in
    omega (arith, read, c.groups_at-high.ensures.number, c.from-2.ensures)

pub returns-clause-next : goal.returns-clause-next
returns-clause-next c =
    let within : c.args.at < length c.args.bytes.now = has_at 9 c.args.at c.args.bytes.now c.requires.within in
    c.groups_at-high.ensures.next ∙ sym (ap (λ (p : ℕ × List ℕ). p.1) (read-at_on 9 c.args.at c.args.bytes.now within (omega arith) c.if-group-lt128.false))
