-- What code that prints a query or an upsert block adds at each step.
use Rattle.std.specs.Prelude.{List}
use Rattle.dg_print.specs.Printed.{Shown}
use Rattle.dg_print.specs.PrintedQuery.{item_words, words_of_field}
use Rattle.dg_parse.specs.declared.query.QItem.{QItem}
use Rattle.dg_parse.specs.declared.query.QItem.TheFolds.{fold-QItem}
use Rattle.dg_print.specs.declared.brackets.Within.{Within}
use Rattle.dg_print.specs.declared.brackets.Within.TheVariants as within
use Rattle.dg_text.specs.Written.{Word}

-- the words of a filter or a condition by what it stands in
abbrev pub words_in : Within → Shown → List Word
words_in within.Brackets s = s.as_or
words_in within.Or s = s.as_and
words_in within.And s = s.as_not

-- item
abbrev pub words_of_item : QItem → List Word
words_of_item = fold-QItem (List Word) (List Word) item_words words_of_field
