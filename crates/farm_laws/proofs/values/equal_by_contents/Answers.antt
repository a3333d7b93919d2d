use Rattle.farm_laws.proofs.SameEntries.{same_entry-Decides, same_opening-Decides}
use Rattle.farm_laws.proofs.values.equal_by_contents.Goals as goal

pub returns : goal.returns
returns c = record { openings = same_opening-Decides; entries = same_entry-Decides }
