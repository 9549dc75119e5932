use Rattle.table_lists.proofs.reads.merged.Given as goal

abbrev pub ghosts-merged_counted : goal.ghosts-merged_counted
ghosts-merged_counted a = record { name = a.blank.name; parts = a.blank.parts }
