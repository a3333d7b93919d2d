use Rattle.posterior.proofs.weigh.weigh_uncounted.Given as goal

abbrev pub ghosts-weigh_on : goal.ghosts-weigh_on
ghosts-weigh_on a = record { name = a.blank.name; parts = a.blank.parts }
