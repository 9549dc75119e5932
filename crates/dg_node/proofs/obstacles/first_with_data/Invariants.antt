use Rattle.dg_node.proofs.obstacles.first_with_data.Given as goal

abbrev pub ghosts-first_in : goal.ghosts-first_in
ghosts-first_in a = record { name = a.blank.name; parts = a.blank.parts }
