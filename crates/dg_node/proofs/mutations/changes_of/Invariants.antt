use Rattle.dg_node.proofs.mutations.changes_of.Given as goal

-- a new ledger
abbrev pub ghosts-expand_in : goal.ghosts-expand_in
ghosts-expand_in a = record { name = a.blank.name; parts = a.blank.parts }
