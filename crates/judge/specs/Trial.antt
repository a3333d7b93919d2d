-- What a trial stands for.
use Rattle.std.specs.Prelude.{◌≡◌}
use Rattle.judge.specs.Fates.{JudgeProgress, standing}
use Rattle.judge.specs.declared.trial.Trial.{Trial}
use Rattle.posterior.specs.StandsFor.{StandsFor}
use Rattle.weight_exact.specs.Weights.{Setup}

-- the setup of the search
abbrev pub setup_in : Trial → Setup
setup_in trial = trial.belief.setup

-- the trial has come this far
pub record IsAt (trial : Trial) (progress : JudgeProgress) : Type 0 where
  pub stands : StandsFor trial.belief progress.counted
  pub greatest : trial.greatest ≡ progress.greatest
  pub standing_is : trial.standing ≡ standing (setup_in trial) progress
