use Rattle.table_levels.proofs.held.nodes.Given as goal

abbrev pub ghosts-held_text : goal.ghosts-held_text
ghosts-held_text a = record { name = a.blank.name; parts = a.blank.parts }
