-- What a belief keeps of its runs, and the weights that are made from it.
use Rattle.std.specs.Prelude.{ℕ, ◌-◌, List, slice_index}
use Rattle.weight_exact.specs.Weights.{Setup, hypotheses}

-- A belief as contracts see it: the setup that it was started with, its floor and load, how many of its runs failed and
-- passed at each position from 1 to n, and the cumulative weights of hypotheses 1 to n + 1, up to one common factor
pub record Kept : Type 0 where
  pub setup : Setup
  pub floor : ℕ
  pub load : ℕ
  pub fails : List ℕ
  pub passes : List ℕ
  pub sums : List ℕ

-- the i-th number of a list, counted from 1
abbrev pub at : List ℕ → ℕ → ℕ
at xs i = slice_index xs (i - 1)

-- the kept sum of all hypotheses
abbrev pub whole : Kept → ℕ
whole k = at k.sums (hypotheses k.setup)
