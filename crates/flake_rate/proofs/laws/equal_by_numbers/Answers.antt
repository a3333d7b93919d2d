use Rattle.flake_rate.proofs.Values.{bar-from_numbers, miss-from_numbers, rate-from_numbers}
use Rattle.flake_rate.proofs.laws.equal_by_numbers.Goals as goal

pub returns : goal.returns
returns c = record { rates = rate-from_numbers; misses = miss-from_numbers; bars = bar-from_numbers }
