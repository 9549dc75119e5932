use Rattle.std.proofs.Common.{sym, arith}
use Rattle.dg_text.proofs.UidLemmas.{all_hex, hex_small}
use Rattle.dg_text.proofs.numbers.uid_of_digits.Goals as goal

pub hex_value-value-requires-clause-each : goal.hex_value-value-requires-clause-each
hex_value-value-requires-clause-each c = all_hex c.args.digits.now (sym c.if-not-are_hex.ensures)

pub hex_value-value-requires-clause-small : goal.hex_value-value-requires-clause-small
hex_value-value-requires-clause-small c = hex_small c.args.digits.now (all_hex c.args.digits.now (sym c.if-not-are_hex.ensures)) (omega arith)
