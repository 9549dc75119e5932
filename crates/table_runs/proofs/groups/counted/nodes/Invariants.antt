use Rattle.table_runs.proofs.groups.counted.nodes.Given as goal

abbrev pub ghosts-nodes_in : goal.ghosts-nodes_in
ghosts-nodes_in g a = record { name = a.blank.name; parts = a.blank.parts }
