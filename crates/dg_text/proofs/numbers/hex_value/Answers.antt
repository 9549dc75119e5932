use Rattle.std.proofs.Common.{arith}
use Rattle.dg_text.proofs.UidLemmas.{digit_below, hex_more}
use Rattle.dg_text.proofs.numbers.hex_value.Goals as goal

pub overflow_mul-value : goal.overflow_mul-value
overflow_mul-value c = let more = hex_more c.args.digits.now c.loop-digit.digit-index c.loop-digit.value c.requires.small c.loop-digit.invariant (omega arith) in omega (arith, more.1)

pub hex_digit-requires : goal.hex_digit-requires
hex_digit-requires c = digit_below c.args.digits.now c.loop-digit.digit-index c.requires.each (omega arith)

pub overflow_add-value : goal.overflow_add-value
overflow_add-value c = let more = hex_more c.args.digits.now c.loop-digit.digit-index c.loop-digit.value c.requires.small c.loop-digit.invariant (omega arith) in omega (arith, more.1, c.hex_digit.ensures)

pub loop-digit-preserved : goal.loop-digit-preserved
loop-digit-preserved c = let more = hex_more c.args.digits.now c.loop-digit.digit-index c.loop-digit.value c.requires.small c.loop-digit.invariant (omega arith) in rw c.hex_digit.ensures more.0
