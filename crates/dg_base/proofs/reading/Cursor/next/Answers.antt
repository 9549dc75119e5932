use Rattle.std.proofs.Common.{◌≡◌, ◌<◌, ◌+◌, ◌-◌, ◌^◌, ◌∷◌, ◌∙◌, ℕ, drop, subst, sym, ap, arith}
use Rattle.dg_base.specs.Packed.{packed_after}
use Rattle.dg_base.specs.Cursors.{Follow}
use Rattle.dg_base.proofs.Numbers.{follow, following}
use Rattle.dg_base.proofs.Steps.{head_within, head_first, head_rest, on_has, on_number, on_rest, follow_on}
use Rattle.dg_base.proofs.reading.Cursor.next.Goals as goal

pub first_at-requires : goal.first_at-requires
first_at-requires c =
    let x = c.requires.0 in
    let xs = c.requires.1 in
    let left = subst (λ (room : ℕ). drop c.args.self.at c.args.bytes.now ≡ packed_after c.args.self.last room (x ∷ xs)) c.if-self-eq0.true c.requires.2.left in
    omega (arith, head_within c.args.bytes.now c.args.self.at c.args.self.last x xs left)

pub number_at-read-requires-clause-within : goal.number_at-read-requires-clause-within
number_at-read-requires-clause-within c =
    let some : 0 < c.args.self.room = omega (arith, c.if-self-eq0.false) in
    on_has c.args.bytes.now c.args.self.at c.args.self.last c.args.self.room c.requires.0 c.requires.1 some c.requires.2.left

pub number_at-read-requires-clause-fits : goal.number_at-read-requires-clause-fits
number_at-read-requires-clause-fits c =
    let some : 0 < c.args.self.room = omega (arith, c.if-self-eq0.false) in
    let number = on_number c.args.bytes.now c.args.self.at c.args.self.last c.args.self.room c.requires.0 c.requires.1 some c.requires.2.left in
    let fits : c.requires.0 < 2 ^ 64 = c.requires.2.fit.0 in
    omega (arith, number, fits)

pub overflow_add-result-else-self-eq0 : goal.overflow_add-result-else-self-eq0
overflow_add-result-else-self-eq0 c =
    let some : 0 < c.args.self.room = omega (arith, c.if-self-eq0.false) in
    let number = on_number c.args.bytes.now c.args.self.at c.args.self.last c.args.self.room c.requires.0 c.requires.1 some c.requires.2.left in
    let up = follow_on c.args.self.last c.args.self.room c.requires.0 c.requires.1 some c.requires.2.follow in
    let fits : c.requires.0 < 2 ^ 64 = c.requires.2.fit.0 in
    omega (arith, number, fits, up, c.number_at-read.ensures.number)

pub returns-then-self-eq0 : goal.returns-then-self-eq0
returns-then-self-eq0 c = λ x xs stands.
    let left = subst (λ (room : ℕ). drop c.args.self.at c.args.bytes.now ≡ packed_after c.args.self.last room (x ∷ xs)) c.if-self-eq0.true stands.left in
    let first : c.first_at.result ≡ x = c.first_at.ensures ∙ head_first c.args.bytes.now c.args.self.at c.args.self.last x xs left stands.fit.0 in
    let ascend = following c.args.self.last c.args.self.room (x ∷ xs) stands.follow in (
      first,
      record {
        left = head_rest c.args.bytes.now c.args.self.at c.args.self.last x xs left ∙ ap (λ (n : ℕ). packed_after n 127 xs) (sym first);
        follow = subst (λ (n : ℕ). Follow n 127 xs) (sym first) (follow 127 x xs ascend);
        fit = stands.fit.1;
      },
    )

pub returns-else-self-eq0 : goal.returns-else-self-eq0
returns-else-self-eq0 c = λ x xs stands.
    let some : 0 < c.args.self.room = omega (arith, c.if-self-eq0.false) in
    let number = on_number c.args.bytes.now c.args.self.at c.args.self.last c.args.self.room x xs some stands.left in
    let up = follow_on c.args.self.last c.args.self.room x xs some stands.follow in
    let first : c.args.self.last + c.number_at-read.result.number ≡ x = omega (arith, number, up, c.number_at-read.ensures.number) in
    let ascend = following c.args.self.last c.args.self.room (x ∷ xs) stands.follow in (
      first,
      record {
        left = c.number_at-read.ensures.next ∙ on_rest c.args.bytes.now c.args.self.at c.args.self.last c.args.self.room x xs some stands.left ∙ ap (λ (n : ℕ). packed_after n (c.args.self.room - 1) xs) (sym first);
        follow = subst (λ (n : ℕ). Follow n (c.args.self.room - 1) xs) (sym first) (follow (c.args.self.room - 1) x xs ascend);
        fit = stands.fit.1;
      },
    )
