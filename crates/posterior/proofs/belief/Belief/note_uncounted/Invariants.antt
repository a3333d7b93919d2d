use Rattle.posterior.proofs.belief.Belief.note_uncounted.Given as goal

abbrev pub ghosts-note_on : goal.ghosts-note_on
ghosts-note_on a = record { name = a.blank.name; parts = a.blank.parts }
