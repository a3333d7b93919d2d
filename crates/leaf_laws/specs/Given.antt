-- What a runner said of a run.
use Rattle.std.specs.Prelude.{◌≡◌, ℕ, List, Contains, Some}
use Rattle.worker_core.specs.declared.tested.Tested.{Tested}
use Rattle.farm_entry.specs.History.{lease_of, opening_numbered}
use Rattle.farm_entry.specs.Setup.{commit_of}
use Rattle.farm_entry.specs.declared.entry.Entry.{Entry}
use Rattle.farm_entry.specs.declared.lease.LeasedRun.{LeasedRun}
use Rattle.farm_entry.specs.declared.opening.Opening.{Opening}
use Rattle.leaf_laws.specs.World.{Made}

-- a runner gave that verdict, or said that the tree can't be tested, for the test of the run's search and at the commit
-- of the run's position
pub record IsGiven (H : List Entry) (made : List Made) (run : ℕ) (tested : Tested) : Type 0 where
  pub lease : LeasedRun
  pub leased : lease_of H run ≡ Some lease
  pub search : Opening
  pub opened : opening_numbered H lease.search ≡ Some search
  pub given : Contains made (record { test = search.test; commit = commit_of search lease.position; tested = tested })
