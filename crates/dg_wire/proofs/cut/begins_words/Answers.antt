use Rattle.std.proofs.Common.{ℕ, List, map, ap, Bor, arith}
use Rattle.dg_wire.proofs.WordCuts.{slice_cons, slice_one, some_next}
use Rattle.dg_wire.proofs.RequestCuts.{by_verb, by_arguments}
use Rattle.dg_wire.proofs.cut.begins_words.Goals as goal

pub returns-in-len1 : goal.returns-in-len1
returns-in-len1 c = by_verb c.any_begins_with.result _ _ (ap (map (λ (w : Bor (List ℕ)). w.now)) (slice_one _ c.args.words.now (omega arith) (omega arith))) c.any_begins_with.ensures

pub returns-in-Some : goal.returns-in-Some
returns-in-Some c =
    by_arguments c.begins_arguments.result c.in-Some.verb _ _ _ (ap (map (λ (w : Bor (List ℕ)). w.now)) (slice_cons _ c.args.words.now (omega arith))) (some_next (λ (w : Bor (List ℕ)). w.now) c.args.words.now (omega arith)) c.in-Some.ensures.found (rw c.takes.ensures at c.begins_arguments.ensures)
