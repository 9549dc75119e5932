use Rattle.dg_node.proofs.owned.alter_parts.Given as goal

abbrev pub ghosts-parts_in : goal.ghosts-parts_in
ghosts-parts_in a = record { name = a.blank.name; parts = a.blank.parts }
