use Rattle.std.proofs.Common.{◌≡◌, ◌∙◌, ap, sym, refl, Some, None}
use Rattle.std.specs.Ordering.{is_gt}
use Rattle.dg_oracle.specs.Histories.{last_of}
use Rattle.dg_oracle.proofs.Merging.{last_at}
use Rattle.dg_oracle.proofs.run.is_older_greater.Goals as goal

pub returns-in-Some-Some : goal.returns-in-Some-Some
returns-in-Some-Some g c =
    let first : last_of c.args.older.now ≡ Some c.in-Some-Some.old.now = last_at c.args.older.now ∙ sym c.in-Some-Some.ensures.value in
    let second : last_of c.args.newer.now ≡ Some c.in-Some-Some.new.now = last_at c.args.newer.now ∙ sym c.in-Some-Some.ensures'.value in
    rw (first, second) (c.is_gt.ensures ∙ ap is_gt c.order.ensures)

pub returns-in-Some-None : goal.returns-in-Some-None
returns-in-Some-None g c =
    let first : last_of c.args.older.now ≡ Some c.in-Some-None.field-0-0.now = last_at c.args.older.now ∙ sym c.in-Some-None.ensures.value in
    let second : last_of c.args.newer.now ≡ None = last_at c.args.newer.now ∙ sym c.in-Some-None.ensures'.value in
    rw (first, second) refl
