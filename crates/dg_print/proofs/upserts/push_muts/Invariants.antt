use Rattle.std.proofs.Common.{◌≡◌, ◌++◌, take}
use Rattle.std.specs.Prelude.{flat_map}
use Rattle.dg_text.specs.Written.{written}
use Rattle.dg_print.specs.PrintedUpsert.{mut_words}
use Rattle.dg_print.proofs.upserts.push_muts.Given as goal

abbrev pub invariant-loop-mutation : goal.invariant-loop-mutation
invariant-loop-mutation l = l.out ≡ l.fn.out ++ written (flat_map mut_words (take l.mutation-index l.muts))
