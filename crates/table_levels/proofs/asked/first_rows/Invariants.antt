use Rattle.table_levels.proofs.asked.first_rows.Given as goal

abbrev pub ghosts-block_rows : goal.ghosts-block_rows
ghosts-block_rows a = record { name = a.blank.name; parts = a.blank.parts }
