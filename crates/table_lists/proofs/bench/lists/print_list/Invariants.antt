use Rattle.table_lists.proofs.bench.lists.print_list.Given as goal

abbrev pub ghosts-print_reads : goal.ghosts-print_reads
ghosts-print_reads g a = record { name = a.blank.name; parts = a.blank.parts }
