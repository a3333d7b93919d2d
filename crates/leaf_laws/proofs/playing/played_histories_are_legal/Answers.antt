use Rattle.leaf_laws.proofs.Played.{decided-legal, played-extends, played-legal}
use Rattle.leaf_laws.proofs.playing.played_histories_are_legal.Goals as goal

pub returns : goal.returns
returns c = record {
  one = decided-legal;
  legal = played-legal;
  extended = λ H asked. let x = played-extends H asked in (x.more, x.is, x.few);
}
