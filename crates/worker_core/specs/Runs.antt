-- What a runner was asked and answered.
use Rattle.std.specs.Prelude.{ℕ, List, ⊤}
use Rattle.farm_types.specs.declared.commit_id.CommitId.{CommitId}
use Rattle.worker_core.specs.declared.tested.Tested.{Tested}
use Rattle.worker_core.specs.declared.runner.Ran.{Ran}
use Rattle.worker_core.specs.declared.runner.Ran.TheVariants as ran

-- the test of this name at this commit, and the answer
pub record Asked : Type 0 where
  pub test : List ℕ
  pub commit : CommitId
  pub answer : Ran

abbrev pub asked : List ℕ → CommitId → Ran → Asked
asked test commit answer = record { test = test; commit = commit; answer = answer }

-- what holds of what a run says, where it says something
abbrev pub IfTested : Ran → (Tested → Type 0) → Type 0
IfTested (ran.Tested t) P = P t
IfTested ran.Failed P = ⊤

-- what holds where the run failed
abbrev pub OnRunFailed : Ran → Type 0 → Type 0
OnRunFailed (ran.Tested t) P = ⊤
OnRunFailed ran.Failed P = P
