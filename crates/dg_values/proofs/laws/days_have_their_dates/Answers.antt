use Rattle.dg_values.proofs.DateParts.{year_of_date, month_of_date, day_of_date}
use Rattle.dg_values.proofs.laws.days_have_their_dates.Goals as goal

pub returns : goal.returns
returns c = record { year = year_of_date; month = month_of_date; day = day_of_date }
