-- Words with fields behind them, as a line has them.
use Rattle.std.specs.Prelude.{ℕ, List, ◌++◌, codes, length, false}
use Rattle.std.specs.Fmt.{decimal, signed_decimal, digits}
use Rattle.dg_wire.specs.declared.told.Field.{Field}
use Rattle.dg_wire.specs.declared.told.Field.TheVariants as fields
use Rattle.dg_wire.specs.declared.told.Told.{Told}
use Rattle.dg_wire.specs.declared.told.Told.TheVariants as tolds

-- the text of a field
abbrev pub field_text : Field → List ℕ
field_text (fields.Name name) = name.now
field_text (fields.Small number) = decimal number.now
field_text (fields.Number number) = decimal number.now
field_text (fields.Signed number) = signed_decimal number.now
field_text (fields.Uid uid) = codes "0x" ++ digits 16 false uid.now
field_text (fields.Len body) = decimal (length body.now)

-- the text of words with fields
abbrev pub told_text : Told → List ℕ
told_text (tolds.Alone words) = words.now
told_text (tolds.One words field) = words.now ++ field_text field
told_text (tolds.Two words first second) = words.now ++ (field_text first ++ (codes " " ++ field_text second))
told_text (tolds.Three words first second third) = words.now ++ (field_text first ++ (codes " " ++ (field_text second ++ (codes " " ++ field_text third))))
