use Rattle.threshold_pick.proofs.hidden.is_hidden.Given as goal

abbrev pub ghosts-is_hidden_on : goal.ghosts-is_hidden_on
ghosts-is_hidden_on a = record { name = a.blank.name; parts = a.blank.parts }
