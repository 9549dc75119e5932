use Rattle.table_zero.proofs.bench.mirror.offered.Given as goal

abbrev pub ghosts-offered_in : goal.ghosts-offered_in
ghosts-offered_in a = record { name = a.blank.name; parts = a.blank.parts }
