-- What it means that a verification stands for a list of reruns.
use Rattle.std.specs.Prelude.{◌≡◌, ℕ, ◌-◌, ◌==◌, List, if◌then◌else◌}
use Rattle.farm_rules.specs.Reruns.{reruns_at, vindicated}
use Rattle.weight_exact.specs.declared.run.Run.{Run}
use Rattle.farm_rules.specs.Verification.{Verification}

-- A verification stands for the reruns that counted where its numbers are the list's
pub record StandsFor (v : Verification) (reruns : List Run) : Type 0 where
  pub at_culprit_is : v.at_culprit ≡ reruns_at v.culprit reruns
  pub at_parent_is : v.at_parent ≡ reruns_at (v.culprit - 1) reruns
  pub against_is : v.against ≡ vindicated v.culprit reruns

-- how many reruns counted at a side
abbrev pub counted_at : Verification → (position : ℕ) → ℕ
counted_at v position = if position == v.culprit then v.at_culprit else v.at_parent
