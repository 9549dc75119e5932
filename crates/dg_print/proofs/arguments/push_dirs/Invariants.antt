use Rattle.std.proofs.Common.{◌≡◌, ◌++◌, take}
use Rattle.std.specs.Prelude.{flat_map}
use Rattle.dg_text.specs.Written.{written}
use Rattle.dg_print.specs.Printed.{dir_words}
use Rattle.dg_print.proofs.arguments.push_dirs.Given as goal

abbrev pub invariant-loop-dir : goal.invariant-loop-dir
invariant-loop-dir l = l.out ≡ l.fn.out ++ written (flat_map dir_words (take l.dir-index l.dirs))
