use Rattle.std.proofs.Common.{◌≡◌, ◌++◌, length}
use Rattle.dg_wire.specs.Frames.{frames}
use Rattle.dg_wire.specs.Generator.{generated}
use Rattle.dg_wire.proofs.generator.gen_script.Given as goal

-- what is written and what is to come are the whole
abbrev pub invariant-loop-text : goal.invariant-loop-text
invariant-loop-text l = l.text.items ++ frames l.generator ≡ frames (generated l.seed l.size)

abbrev pub decreases-loop-text : goal.decreases-loop-text
decreases-loop-text l = length l.generator
