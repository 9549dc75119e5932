use Rattle.std.proofs.Common.{◌≡◌, ◌++◌, take}
use Rattle.std.specs.Prelude.{flat_map}
use Rattle.dg_text.specs.Written.{written}
use Rattle.dg_print.specs.PrintedQuery.{field_words}
use Rattle.dg_print.proofs.fields.+printed.Given as goal

abbrev pub invariant-push_fields-loop-field : goal.invariant-push_fields-loop-field
invariant-push_fields-loop-field l = l.out ≡ l.fn.out ++ written (flat_map field_words (take l.field-index l.fields))
