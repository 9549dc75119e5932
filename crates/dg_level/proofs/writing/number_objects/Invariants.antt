use Rattle.std.proofs.Common.{◌≡◌, map, take}
use Rattle.dg_level.specs.Columns.{number_object}
use Rattle.dg_level.proofs.writing.number_objects.Given as goal

abbrev pub invariant-loop-key : goal.invariant-loop-key
invariant-loop-key l = l.texts.items ≡ map (number_object l.number) (take l.key-index l.keys)
