use Rattle.std.proofs.Common.{◌≡◌, take}
use Rattle.std.specs.Prelude.{flat_map}
use Rattle.dg_schema.specs.Texts.{next_text}
use Rattle.dg_schema.proofs.printing.more_text.Given as goal

abbrev pub invariant-loop-tokenizer : goal.invariant-loop-tokenizer
invariant-loop-tokenizer l = l.text ≡ flat_map next_text (take l.tokenizer-index l.more)
