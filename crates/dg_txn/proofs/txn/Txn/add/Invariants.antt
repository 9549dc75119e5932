use Rattle.dg_txn.proofs.txn.Txn.add.Given as goal

abbrev pub ghosts-stepped : goal.ghosts-stepped
ghosts-stepped a = record { name = a.blank.name; parts = a.blank.parts }
