use Rattle.table_runs.proofs.groups.counted.objects.Given as goal

abbrev pub ghosts-objects_in : goal.ghosts-objects_in
ghosts-objects_in g a = record { name = a.blank.name; parts = a.blank.parts }
