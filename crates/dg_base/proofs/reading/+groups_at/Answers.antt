use Rattle.std.proofs.Common.{◌≡◌, ◌<◌, ◌⊎◌, inl, inr, ◌∙◌, ℕ, List, length, get_or, sym, ap, arith}
use Rattle.dg_base.proofs.Groups.{has_at, has-at_on, read-at_last, read-at_on}
use Rattle.dg_base.proofs.reading.+groups_at.Goals.{then-more-eq0-via-then-more-eq0, then-more-eq0-via-else-more-eq0+then-group-lt128}
use Rattle.dg_base.proofs.reading.+groups_at.Goals as goal

pub bounds-bytes-at : goal.bounds-bytes-at
bounds-bytes-at t c = has_at c.args.more c.args.at c.args.bytes.now c.requires.within

pub overflow_add-result : goal.overflow_add-result
overflow_add-result t c =
    let within : c.args.at < length c.args.bytes.now = has_at c.args.more c.args.at c.args.bytes.now c.requires.within in
    omega arith

pub returns-then-more-eq0-clause-number : goal.returns-then-more-eq0-clause-number
returns-then-more-eq0-clause-number t c =
    let within : c.args.at < length c.args.bytes.now = has_at c.args.more c.args.at c.args.bytes.now c.requires.within in
    let last : (c.args.more ≡ 0) ⊎ (get_or c.args.bytes.now c.args.at 0 < 128) = elim c.then-more-eq0.branch [ then-more-eq0-via-then-more-eq0 w ↦ inl w.if-more-eq0.true | then-more-eq0-via-else-more-eq0+then-group-lt128 w ↦ inr w.if-group-lt128.true ] in
    let read = ap (λ (p : ℕ × List ℕ). p.0) (read-at_last c.args.more c.args.at c.args.bytes.now within last) in
    c.from.ensures ∙ sym read

pub returns-then-more-eq0-clause-next : goal.returns-then-more-eq0-clause-next
returns-then-more-eq0-clause-next t c =
    let within : c.args.at < length c.args.bytes.now = has_at c.args.more c.args.at c.args.bytes.now c.requires.within in
    let last : (c.args.more ≡ 0) ⊎ (get_or c.args.bytes.now c.args.at 0 < 128) = elim c.then-more-eq0.branch [ then-more-eq0-via-then-more-eq0 w ↦ inl w.if-more-eq0.true | then-more-eq0-via-else-more-eq0+then-group-lt128 w ↦ inr w.if-group-lt128.true ] in
    sym (ap (λ (p : ℕ × List ℕ). p.1) (read-at_last c.args.more c.args.at c.args.bytes.now within last))

pub groups_at-high-requires : goal.groups_at-high-requires
groups_at-high-requires t c =
    let within : c.args.at < length c.args.bytes.now = has_at c.args.more c.args.at c.args.bytes.now c.requires.within in
    let more : 0 < c.args.more = omega (arith, c.if-more-eq0.false) in
    let has = has-at_on c.args.more c.args.at c.args.bytes.now within more c.if-group-lt128.false in
    let read = ap (λ (p : ℕ × List ℕ). p.0) (read-at_on c.args.more c.args.at c.args.bytes.now within more c.if-group-lt128.false) in
    (omega arith, (sym has ∙ c.requires.within, omega (arith, read, c.requires.fits)))

pub overflow_mul-result : goal.overflow_mul-result
overflow_mul-result t c =
    let within : c.args.at < length c.args.bytes.now = has_at c.args.more c.args.at c.args.bytes.now c.requires.within in
    let more : 0 < c.args.more = omega (arith, c.if-more-eq0.false) in
    let read = ap (λ (p : ℕ × List ℕ). p.0) (read-at_on c.args.more c.args.at c.args.bytes.now within more c.if-group-lt128.false) in
    omega (arith, read, c.requires.fits, c.groups_at-high.ensures.number)

pub overflow_add-result-2 : goal.overflow_add-result-2
overflow_add-result-2 t c =
    let within : c.args.at < length c.args.bytes.now = has_at c.args.more c.args.at c.args.bytes.now c.requires.within in
    let more : 0 < c.args.more = omega (arith, c.if-more-eq0.false) in
    let read = ap (λ (p : ℕ × List ℕ). p.0) (read-at_on c.args.more c.args.at c.args.bytes.now within more c.if-group-lt128.false) in
    omega (arith, read, c.requires.fits, c.groups_at-high.ensures.number, c.from-2.ensures)

pub returns-clause-number : goal.returns-clause-number
returns-clause-number t c =
    let within : c.args.at < length c.args.bytes.now = has_at c.args.more c.args.at c.args.bytes.now c.requires.within in
    let more : 0 < c.args.more = omega (arith, c.if-more-eq0.false) in
    let read = ap (λ (p : ℕ × List ℕ). p.0) (read-at_on c.args.more c.args.at c.args.bytes.now within more c.if-group-lt128.false) in
    omega (arith, read, c.groups_at-high.ensures.number, c.from-2.ensures)

pub returns-clause-next : goal.returns-clause-next
returns-clause-next t c =
    let within : c.args.at < length c.args.bytes.now = has_at c.args.more c.args.at c.args.bytes.now c.requires.within in
    let more : 0 < c.args.more = omega (arith, c.if-more-eq0.false) in
    c.groups_at-high.ensures.next ∙ sym (ap (λ (p : ℕ × List ℕ). p.1) (read-at_on c.args.more c.args.at c.args.bytes.now within more c.if-group-lt128.false))
