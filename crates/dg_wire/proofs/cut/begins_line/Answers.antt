use Rattle.std.proofs.Common.{ℕ, List, map, ap, ◌∙◌, Bor}
use Rattle.dg_wire.proofs.RequestCuts.{by_line}
use Rattle.dg_wire.proofs.cut.begins_line.Goals as goal

pub returns : goal.returns
returns c = by_line c.begins_words.result c.args.bytes.now _ (ap (map (λ (w : Bor (List ℕ)). w.now)) c.as_slice.ensures.value ∙ c.in_ok-words.ensures) c.begins_words.ensures
