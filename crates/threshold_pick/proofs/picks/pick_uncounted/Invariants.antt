use Rattle.threshold_pick.proofs.picks.pick_uncounted.Given as goal

abbrev pub ghosts-pick_on : goal.ghosts-pick_on
ghosts-pick_on a = record { name = a.blank.name; parts = a.blank.parts }
