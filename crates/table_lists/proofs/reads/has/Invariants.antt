use Rattle.table_lists.proofs.reads.has.Given as goal

abbrev pub ghosts-has_counted : goal.ghosts-has_counted
ghosts-has_counted a = record { name = a.blank.name; parts = a.blank.parts }
