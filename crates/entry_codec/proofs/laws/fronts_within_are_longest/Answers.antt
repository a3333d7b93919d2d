use Rattle.entry_codec.proofs.LogPages.{front-longest}
use Rattle.entry_codec.proofs.laws.fronts_within_are_longest.Goals as goal

pub returns : goal.returns
returns c = front-longest
