use Rattle.table_levels.proofs.asked.answer_over.Given as goal

abbrev pub ghosts-plan_text : goal.ghosts-plan_text
ghosts-plan_text g a = record { name = a.blank.name; parts = a.blank.parts }
