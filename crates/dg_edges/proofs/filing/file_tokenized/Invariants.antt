use Rattle.std.proofs.Common.{◌≡◌, ◌++◌, flat_map, take}
use Rattle.dg_edges.specs.Filing.{filed_by}
use Rattle.dg_edges.proofs.filing.file_tokenized.Given as goal

abbrev pub invariant-loop-tokenizer : goal.invariant-loop-tokenizer
invariant-loop-tokenizer l = l.filed.items ≡ l.fn.filed.items ++ flat_map (filed_by l.p l.s l.object) (take l.tokenizer-index l.tokenizers)
