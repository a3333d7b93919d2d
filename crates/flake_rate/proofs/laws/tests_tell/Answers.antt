use Rattle.flake_rate.proofs.Limits.{bar-tested, bar-within, fits-tested, fits-within, miss-tested, miss-within, rate-tested, rate-within}
use Rattle.flake_rate.proofs.laws.tests_tell.Goals as goal

pub returns : goal.returns
returns c = record {
  rate = λ a b. (rate-within a b, rate-tested a b);
  miss = λ c d. (miss-within c d, miss-tested c d);
  bar = λ t u. (bar-within t u, bar-tested t u);
  fits = λ miss rate. (fits-within miss rate, fits-tested miss rate);
}
