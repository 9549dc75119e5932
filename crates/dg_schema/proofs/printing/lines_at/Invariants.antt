use Rattle.std.proofs.Common.{◌≡◌, [], take}
use Rattle.std.specs.Prelude.{flat_map, slice_get}
use Rattle.std.specs.Option.{option_map_or}
use Rattle.dg_schema.specs.Texts.{definition_text}
use Rattle.dg_schema.proofs.printing.lines_at.Given as goal

abbrev pub invariant-loop-place : goal.invariant-loop-place
invariant-loop-place l = l.text ≡ flat_map (λ place. option_map_or definition_text (slice_get l.definitions place) []) (take l.place-index l.places)
