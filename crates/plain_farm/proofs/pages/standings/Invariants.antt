use Rattle.std.proofs.Common.{◌≡◌, map, take}
use Rattle.farm_entry.specs.History.{openings}
use Rattle.farm_entry.specs.Standing.{standing}
use Rattle.plain_farm.proofs.pages.standings.Given as goal

abbrev pub invariant-loop-entry : goal.invariant-loop-entry
invariant-loop-entry l = l.found.items ≡ map (standing l.history) (openings (take l.entry-index l.history))
