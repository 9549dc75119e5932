use Rattle.std.proofs.Common.{ℕ, List, map, refl, ap, Bor, arith}
use Rattle.dg_wire.proofs.WordCuts.{slice_cons, slice_one, some_next, no_kinds, by_front, by_next}
use Rattle.dg_wire.proofs.cut.+begins_arguments.Goals as goal

pub returns-in-empty : goal.returns-in-empty
returns-in-empty t c = (λ h. absurd (cc), λ begins. absurd (no_kinds c.args.arguments.now _ c.in-empty.len_below begins))

pub returns-in-len1 : goal.returns-in-len1
returns-in-len1 t c =
    by_front c.begins_with.result _ _ c.args.arguments.now _ _ (slice_cons _ c.args.arguments.now (omega arith)) (ap (map (λ (w : Bor (List ℕ)). w.now)) (slice_one _ c.args.words.now (omega arith) (omega arith))) c.begins_with.ensures

pub returns-then-accepts : goal.returns-then-accepts
returns-then-accepts t c =
    by_next c.begins_arguments.result _ _ c.args.arguments.now _ _ _ (slice_cons _ c.args.arguments.now (omega arith)) (ap (map (λ (w : Bor (List ℕ)). w.now)) (slice_cons _ c.args.words.now (omega arith))) (some_next (λ (w : Bor (List ℕ)). w.now) c.args.words.now (omega arith)) (c.if-accepts.ensures.0 refl) c.begins_arguments.ensures
