-- The values under which indexes that keep the order of values file them.
use Rattle.std.specs.Prelude.{Option, Some, None}
use Rattle.dg_values.specs.declared.kind.Tokenizer.{Tokenizer}
use Rattle.dg_values.specs.declared.kind.Tokenizer.TheVariants as tokenizers
use Rattle.dg_values.specs.declared.kind.DatePart.TheVariants as parts
use Rattle.dg_values.specs.declared.value.Value.{Value}
use Rattle.dg_values.specs.declared.value.Value.TheVariants.{Int, Text, Time}
use Rattle.dg_values.specs.Calendar.{truncated}
use Rattle.dg_values.specs.Instant.{IsInstant}

-- the value under which such an index files a value: itself, or a moment cut down; none where it files no value of the kind
abbrev pub filed_as : Tokenizer → Value → Option Value
filed_as tokenizers.Exact (Text t) = Some (Text t)
filed_as tokenizers.Int (Int n) = Some (Int n)
filed_as tokenizers.Hour (Time m) = Some (Time (truncated parts.Hour m))
filed_as tokenizers.Day (Time m) = Some (Time (truncated parts.Day m))
filed_as tokenizers.Month (Time m) = Some (Time (truncated parts.Month m))
filed_as tokenizers.Year (Time m) = Some (Time (truncated parts.Year m))
filed_as tokenizer v = None

-- a moment is of the years 0000 to 9999
abbrev pub IsInYears : Value → Type 0
IsInYears (Time m) = IsInstant m
IsInYears v = Unit {0}
