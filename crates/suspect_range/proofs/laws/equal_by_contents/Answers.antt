use Rattle.suspect_range.proofs.SameContents.{same_range-Decides, same_suspect-Decides}
use Rattle.suspect_range.proofs.laws.equal_by_contents.Goals as goal

pub returns : goal.returns
returns c = record { suspects = same_suspect-Decides; ranges = same_range-Decides }
