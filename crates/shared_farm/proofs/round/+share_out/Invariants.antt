use Rattle.std.proofs.Common.{length}
use Rattle.shared_farm.proofs.round.+share_out.Given as goal

abbrev pub decreases-share_out : goal.decreases-share_out
decreases-share_out g l = length l.group.now.items
