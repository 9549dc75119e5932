-- What values print as.
use Rattle.std.specs.Prelude.{ℕ, ◌/◌, ◌%◌, Bool, true, false, List, [], ◌∷◌, ◌++◌, None, codes}
use Rattle.std.specs.Fmt.{signed_decimal}
use Rattle.jiff_fmt.specs.Text.{fraction_part}
use Rattle.dg_values.specs.declared.value.Value.{Value}
use Rattle.dg_values.specs.declared.value.Value.TheVariants.{Int, Text, Bool as Truth, Time}
use Rattle.dg_values.specs.Instant.{Instant}
use Rattle.dg_values.specs.Calendar.{year_of, month_of, day_of, day_number, clock_of}
use Rattle.dg_values.specs.Forms.{date_text, clock_text}

-- `true` or `false`
abbrev pub truth_text : Bool → List ℕ
truth_text true = codes "true"
truth_text false = codes "false"

-- `YYYY-MM-DDThh:mm:ss`, a point and the fraction without zeros at its end where there is one, and `Z`
abbrev pub time_text : Instant → List ℕ
time_text m =
    date_text (year_of (day_number m)) (month_of (day_number m)) (day_of (day_number m)) ++ 84 ∷ []
    ++ clock_text (clock_of m / 3600) (clock_of m / 60 % 60) (clock_of m % 60) ++ fraction_part None m.nanos ++ 90 ∷ []

-- a number in decimal, a text as it is
abbrev pub value_text : Value → List ℕ
value_text (Int n) = signed_decimal n
value_text (Text t) = t
value_text (Truth b) = truth_text b
value_text (Time m) = time_text m
