use Rattle.dg_node.proofs.upserts.upsert_by.Given as goal

-- a new ledger
abbrev pub ghosts-variables_in : goal.ghosts-variables_in
ghosts-variables_in g a = record { name = a.blank.name; parts = a.blank.parts }
