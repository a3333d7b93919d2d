-- A range of suspects as contracts see it, and what its limits are.
use Rattle.std.specs.Prelude.{ℕ, List, ◌∷◌, length, map, ◌-◌, ◌≤◌, ◌≢◌, All, AllPairs, slice_index, slice_index_or}
use Rattle.farm_types.specs.declared.commit_id.CommitId.{CommitId}
use Rattle.suspect_range.specs.declared.suspect.Suspect.{Suspect}
use Rattle.weight_exact.specs.Limits.{IsCalm, IsWeight}
use Rattle.weight_exact.specs.declared.limits.TheConstants.{MAX_SUSPECTS}

-- a base, the suspects above it in commit order, and the weight of "no suspect is the culprit"
pub record RangeView : Type 0 where
  pub base : CommitId
  pub suspects : List Suspect
  pub calm : ℕ

-- the commits by position: the base has 0, and the suspects count from 1
abbrev pub commits_of : CommitId → List Suspect → List CommitId
commits_of base suspects = base ∷ map (λ suspect. suspect.commit) suspects

-- the commit at a position
abbrev pub commit_at : CommitId → List Suspect → ℕ → CommitId
commit_at base suspects position = slice_index_or (commits_of base suspects) position base

-- the weight of the suspect at a position from 1 on
abbrev pub weight_at : List Suspect → ℕ → ℕ
weight_at suspects position = slice_index (map (λ suspect. suspect.weight) suspects) (position - 1)

-- the limits of a range, and that all of its commits differ
pub record IsSuspectRange (base : CommitId) (suspects : List Suspect) (calm : ℕ) : Type 0 where
  pub some : 1 ≤ length suspects
  pub few : length suspects ≤ MAX_SUSPECTS
  pub weights : All (λ suspect. IsWeight suspect.weight) suspects
  pub calm_in : IsCalm calm
  pub distinct : AllPairs (λ a b. a ≢ b) (commits_of base suspects)
