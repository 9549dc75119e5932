-- What a command writes that reads nothing.
use Rattle.std.specs.Prelude.{ℕ, List}
use Rattle.std.specs.declared.option.Option.{Option}
use Rattle.std.specs.Io.KnownBytes.{Appends}
use Rattle.dg_io.specs.Pieces.{AppendsPart}
use Rattle.dg_node.specs.declared.status.Status.{Status}
use Rattle.dg_node.specs.declared.status.Status.TheVariants as statuses

-- all of the text was written, or a front of it where a write failed or memory was wanting
abbrev pub Writes : List ℕ → Option (List ℕ) → Option (List ℕ) → Status → Type 0
Writes text held_old held_new statuses.Done = Appends held_old held_new text
Writes text held_old held_new statuses.WriteFault = AppendsPart held_old held_new text
Writes text held_old held_new statuses.OutOfMemory = AppendsPart held_old held_new text
Writes text held_old held_new status = ⊥
