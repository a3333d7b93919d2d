-- The numbers and the name of a reply that hands out a run.
use Rattle.std.specs.Prelude.{ℕ, ◌<◌, ◌≤◌, ◌^◌, List}
use Rattle.farm_types.specs.Limits.{IsName}

-- The numbers are in their ranges, that of the run from 1 on, and the name of the test is one. Those of each reply that
-- a program holds are.
pub record IsLease (run search position deadline : ℕ) (test : List ℕ) : Type 0 where
  pub run_some : 1 ≤ run
  pub run_fits : run < 2 ^ 32
  pub search_fits : search < 2 ^ 32
  pub position_fits : position < 2 ^ 16
  pub deadline_fits : deadline < 2 ^ 64
  pub name : IsName test
