use Rattle.std.proofs.Common.{◌≡◌, true, take}
use Rattle.dg_edges.specs.Altering.{has_each}
use Rattle.dg_edges.proofs.rereading.has_each.Given as goal

abbrev pub invariant-loop-tokenizer : goal.invariant-loop-tokenizer
invariant-loop-tokenizer l = has_each l.tokenizers (take l.tokenizer-index l.some) ≡ true
