use Rattle.posterior.proofs.belief.weight_at.Given as goal

abbrev pub ghosts-weight_at_counted : goal.ghosts-weight_at_counted
ghosts-weight_at_counted a = record { name = a.blank.name; parts = a.blank.parts }
