use Rattle.leaf_laws.proofs.Past.{past-repeated, unnamed-unclashed, unnamed-unrepeated}
use Rattle.leaf_laws.proofs.repeats.entries_past_the_founding_are_repeated.Goals as goal

pub returns : goal.returns
returns c = record { past = past-repeated; no_repeat = unnamed-unrepeated; no_clash = unnamed-unclashed }
