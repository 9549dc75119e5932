use Rattle.table_zero.proofs.counted.offer.Given as goal

abbrev pub ghosts-offer_in : goal.ghosts-offer_in
ghosts-offer_in g a = record { name = a.blank.name; parts = a.blank.parts }
