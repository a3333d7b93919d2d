-- What contracts see of a verification.
use Rattle.std.specs.Prelude.{ℕ, ◌≤◌, Bool}

-- the culprit's position, the number of reruns asked for on each side, the numbers counted at the culprit and at its
-- parent, and whether a rerun that counted speaks against the culprit
pub record Verification : Type 0 where
  pub culprit : ℕ
  pub asked : ℕ
  pub at_culprit : ℕ
  pub at_parent : ℕ
  pub against : Bool

-- the base is no culprit, and no side has more reruns than were asked for
pub record IsVerification (culprit asked at_culprit at_parent : ℕ) : Type 0 where
  pub a_suspect : 1 ≤ culprit
  pub culprit_within : at_culprit ≤ asked
  pub parent_within : at_parent ≤ asked
