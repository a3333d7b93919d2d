use Rattle.leaf_laws.proofs.Within.{no_fault}
use Rattle.farm_laws.proofs.Again.{bar-again, fitting-again, miss-again, rate-again}
use Rattle.suspect_range.proofs.Legal.{no_fault-from_IsSuspectRange}
use Rattle.leaf_laws.proofs.numbers.values_are_made_again_from_their_readers.Goals as goal

pub returns : goal.returns
returns c = record {
  rate = rate-again;
  miss = miss-again;
  bar = bar-again;
  fits = fitting-again;
  range = λ range legal. no_fault-from_IsSuspectRange range.base range.suspects range.calm legal;
  settings = λ s. no_fault s.lease_ms s.daily s.zone_minutes s.lease_in_range s.daily_in_range s.zone_in_range;
}
