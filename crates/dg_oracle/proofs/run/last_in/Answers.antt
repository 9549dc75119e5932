use Rattle.std.proofs.Common.{◌≡◌, ◌≤◌, ◌-◌, ℕ, get_or, true, false, subst, sym, ◌∙◌, ap, arith}
use Rattle.std.specs.Ordering.{is_eq, is_le}
use Rattle.std.specs.List.Sorted.{IsPartitionPoint}
use Rattle.dg_oracle.specs.declared.mark.Mark.{Mark}
use Rattle.dg_oracle.specs.Histories.{is_marked}
use Rattle.dg_oracle.proofs.Searches.{none_there, last_there, is_marked_there}
use Rattle.dg_oracle.proofs.run.last_in.Goals as goal
use Rattle.dg_oracle.proofs.run.last_in.Goals.{else-is_eq-via-then-is_eq+else-start-mark, else-is_eq-via-else-is_eq}

pub returns-then-end-eq0 : goal.returns-then-end-eq0
returns-then-end-eq0 g c =
    none_there g.K.Ord.cmp g.met.K.Ord.total c.args.key.now c.args.marks.now c.args.start (subst (λ (end : ℕ). IsPartitionPoint (λ m. is_le (g.K.Ord.cmp m.key c.args.key.now) ≡ true) (λ m. is_le (g.K.Ord.cmp m.key c.args.key.now) ≡ false) c.args.marks.now end) c.if-end-eq0.true c.up_to-end.ensures.point)

pub returns-then-start-mark : goal.returns-then-start-mark
returns-then-start-mark g c =
    let mark = c.index-marks-end.result in
    let equal : is_eq (g.K.Ord.cmp mark.key c.args.key.now) ≡ true = ap is_eq (sym c.cmp.ensures) ∙ (sym c.is_eq.ensures ∙ c.if-is_eq.true) in
    let there : is_marked g.K.Ord.cmp c.args.marks.now c.args.key.now (get_or c.args.marks.now (c.up_to-end.result - 1) mark).ts ≡ true = is_marked_there g.K.Ord.cmp g.met.K.Ord.total c.args.key.now c.args.marks.now (c.up_to-end.result - 1) mark (omega (arith, c.up_to-end.ensures.bound)) (subst (λ (m : Mark g.row.K.Denot). is_eq (g.K.Ord.cmp m.key c.args.key.now) ≡ true) c.index-marks-end.is equal) in
    (c.if-start-mark.true, subst (λ (m : Mark g.row.K.Denot). is_marked g.K.Ord.cmp c.args.marks.now c.args.key.now m.ts ≡ true) (sym c.index-marks-end.is) there, last_there g.K.Ord.cmp g.met.K.Ord.total c.args.key.now c.args.marks.now c.requires c.up_to-end.result mark.ts mark (omega arith) c.up_to-end.ensures.bound c.up_to-end.ensures.point c.index-marks-end.is (λ _. omega arith))

pub returns-else-is_eq : goal.returns-else-is_eq
returns-else-is_eq g c =
    let mark = c.index-marks-end.result in
    let low : is_eq (g.K.Ord.cmp mark.key c.args.key.now) ≡ true → mark.ts ≤ c.args.start = elim c.else-is_eq.branch [ else-is_eq-via-then-is_eq+else-start-mark w ↦ (λ _. omega (arith, w.if-start-mark.false)) | else-is_eq-via-else-is_eq w ↦ (λ e. absurd (let f : is_eq (g.K.Ord.cmp mark.key c.args.key.now) ≡ false = ap is_eq (sym c.cmp.ensures) ∙ (sym c.is_eq.ensures ∙ w.if-is_eq.false) in cc)) ] in
    last_there g.K.Ord.cmp g.met.K.Ord.total c.args.key.now c.args.marks.now c.requires c.up_to-end.result c.args.start mark (omega arith) c.up_to-end.ensures.bound c.up_to-end.ensures.point c.index-marks-end.is low
