-- What becomes of a history as commands are decided one after the other.
use Rattle.std.specs.Prelude.{List, [], ◌∷◌, ◌++◌}
use Rattle.farm_types.specs.declared.moment.Moment.{Moment}
use Rattle.farm_entry.specs.Decision.{decide}
use Rattle.farm_entry.specs.declared.command.Command.{Command}
use Rattle.farm_entry.specs.declared.decision.Decision.{Decision}
use Rattle.farm_entry.specs.declared.decision.Decision.TheVariants.{New, Refuse, Repeat, Show}
use Rattle.farm_entry.specs.declared.entry.Entry.{Entry}

-- the history after a decision: a new entry is added, and nothing else changes it
abbrev pub after : List Entry → Decision → List Entry
after H (Refuse cause) = H
after H (Repeat place) = H
after H (Show page) = H
after H (New e) = H ++ e ∷ []

-- the history after commands, each at its moment, in order
abbrev pub played : List Entry → List (Command × Moment) → List Entry
played H [] = H
played H (asked ∷ more) = played (after H (decide H asked.0 asked.1)) more
