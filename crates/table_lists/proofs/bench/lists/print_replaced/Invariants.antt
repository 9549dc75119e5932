use Rattle.table_lists.proofs.bench.lists.print_replaced.Given as goal

abbrev pub ghosts-print_newest : goal.ghosts-print_newest
ghosts-print_newest g a = record { name = a.blank.name; parts = a.blank.parts }
