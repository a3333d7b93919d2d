use Rattle.threshold_pick.proofs.open_picks.open_pick_uncounted.Given as goal

abbrev pub ghosts-open_pick_on : goal.ghosts-open_pick_on
ghosts-open_pick_on a = record { name = a.blank.name; parts = a.blank.parts }
