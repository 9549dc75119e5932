use Rattle.table_zero.proofs.counted.alter_parts.Given as goal

abbrev pub ghosts-alter_parts_in : goal.ghosts-alter_parts_in
ghosts-alter_parts_in a = record { name = a.blank.name; parts = a.blank.parts }
