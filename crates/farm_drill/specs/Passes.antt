-- What a worker's pass knows by the plan, and what the worker keeps of it.
use Rattle.std.specs.Prelude.{◌≡◌, [], Some}
use Rattle.common_types.specs.Prefix.{IsPrefix}
use Rattle.turn_lock.specs.Known.{Known}
use Rattle.farm_drill.specs.Planned.{ArePlanned}

-- the entries at the places of a pass say what the plan does; when it last saw the store nothing was pending, and the
-- disk had not failed
pub record IsByPlan (pass : Known) : Type 0 where
  pub planned : ArePlanned pass.seen pass.mine
  pub pending : pass.pending ≡ Some []
  pub faults : pass.faults ≡ 0

-- it is so after what was done, the history went on, the pass has the parts of the farm that it had, and no turn left
-- anything undecided
pub record KeepsPlan (old new : Known) : Type 0 where
  pub longer : IsPrefix old.seen new.seen
  pub planned : ArePlanned new.seen new.mine
  pub pending : new.pending ≡ Some []
  pub faults : new.faults ≡ 0
  pub parts : new.stake.parts ≡ old.stake.parts
  pub undecided : new.stake.undecided ≡ old.stake.undecided
