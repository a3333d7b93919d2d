use Rattle.farm_laws.proofs.Bounds.{entries-bounded, entries-unclosed, openings-bounded}
use Rattle.farm_laws.proofs.histories.histories_are_bounded.Goals as goal

pub returns : goal.returns
returns c = record { entries = entries-bounded; unclosed = entries-unclosed; searches = openings-bounded }
