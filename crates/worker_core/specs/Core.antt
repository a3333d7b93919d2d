-- What contracts see of a worker.
use Rattle.std.specs.Prelude.{ℕ, ◌<◌, ◌≤◌, Option, Some, None, ⊤}
use Rattle.worker_core.specs.declared.action.Action.{Action}
use Rattle.worker_core.specs.declared.action.Action.TheVariants.{Draw, AskLease}
use Rattle.worker_core.specs.declared.worker.TheConstants.{MAX_TRIES}

-- how many leases it may still take, how often its last request was lost, and what it did last, if anything
pub record Core : Type 0 where
  pub left : ℕ
  pub lost : ℕ
  pub last : Option Action

-- where a lease is still to come, some are left
abbrev pub HasLeases : ℕ → Option Action → Type 0
HasLeases left None = 1 ≤ left
HasLeases left (Some Draw) = 1 ≤ left
HasLeases left (Some (AskLease key)) = 1 ≤ left
HasLeases left (Some _) = ⊤

-- some try of the request is left, and of the leases too
pub record IsCore (left lost : ℕ) (last : Option Action) : Type 0 where
  pub tries : lost < MAX_TRIES
  pub leases : HasLeases left last
