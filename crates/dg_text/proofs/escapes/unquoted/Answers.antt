use Rattle.std.proofs.Common.{string_bytes, arith}
use Rattle.std.proofs.lemmas.Str.{IsCharBoundary-start}
use Rattle.dg_text.proofs.EscapeLemmas.{none_said}
use Rattle.dg_text.proofs.escapes.unquoted.Goals as goal

pub loop-init : goal.loop-init
loop-init c = record {
  so_far = none_said (string_bytes c.new-out.result) c.args.text.now c.new-out.ensures.bytes;
  turn = omega arith;
  cut = IsCharBoundary-start c.args.text.now c.utf8.text;
}
