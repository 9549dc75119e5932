use Rattle.table_zero.proofs.counted.expanded.Given as goal

abbrev pub ghosts-expanded_in : goal.ghosts-expanded_in
ghosts-expanded_in a = record { name = a.blank.name; parts = a.blank.parts }
