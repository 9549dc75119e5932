use Rattle.table_zero.proofs.counted.parts_and_keys.Given as goal

abbrev pub ghosts-parts_and_keys_in : goal.ghosts-parts_and_keys_in
ghosts-parts_and_keys_in a = record { name = a.blank.name; parts = a.blank.parts }
