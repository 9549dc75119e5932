use Rattle.std.proofs.Common.{◌≡◌, ◌++◌, flat_map, take}
use Rattle.dg_edges.specs.Replaced.{keys_of_tokens}
use Rattle.dg_edges.proofs.touched.push_tokenized.Given as goal

abbrev pub invariant-loop-tokenizer : goal.invariant-loop-tokenizer
invariant-loop-tokenizer l = l.found.items ≡ l.fn.found.items ++ flat_map (keys_of_tokens l.def l.t l.object) (take l.tokenizer-index l.tokenizers)
