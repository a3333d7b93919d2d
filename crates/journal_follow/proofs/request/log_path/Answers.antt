use Rattle.std.proofs.Common.{refl}
use Rattle.journal_follow.specs.Asks.{log_path}
use Rattle.journal_follow.proofs.request.log_path.Goals as goal

pub returns : goal.returns
unfolding log_path
returns c = refl
