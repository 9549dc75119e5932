use Rattle.std.proofs.Common.{◌≡◌, false, take}
use Rattle.dg_values.specs.Ascending.{has}
use Rattle.dg_values.specs.Order.{tokenizer_cmp}
use Rattle.dg_edges.proofs.rereading.has_tokenizer.Given as goal

abbrev pub invariant-loop-tokenizer : goal.invariant-loop-tokenizer
invariant-loop-tokenizer l = has tokenizer_cmp (take l.tokenizer-index l.tokenizers) l.wanted ≡ false
