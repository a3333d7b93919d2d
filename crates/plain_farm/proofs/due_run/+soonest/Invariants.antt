use Rattle.std.proofs.Common.{length}
use Rattle.plain_farm.proofs.due_run.+soonest.Given as goal

abbrev pub decreases-soonest : goal.decreases-soonest
decreases-soonest l = length l.runs.now
