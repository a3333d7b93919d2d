-- Why suspects make no range. Positions count the suspects from 1, since the base has position 0.
use Rattle.std.specs.Prelude.{ℕ, List, length, take, find, position, not, nat_lt, ◌==◌, ◌+◌, Bool, if◌then◌else◌, Option, Some, None}
use Rattle.std.specs.List.{list_any, range_with_len}
use Rattle.std.specs.Option.{option_map, option_or}
use Rattle.farm_types.specs.CommitId.{same_id}
use Rattle.farm_types.specs.declared.commit_id.CommitId.{CommitId}
use Rattle.suspect_range.specs.Range.{commit_at, commits_of}
use Rattle.suspect_range.specs.declared.suspect.Suspect.{Suspect}
use Rattle.suspect_range.specs.declared.fault.RangeFault.{RangeFault}
use Rattle.suspect_range.specs.declared.fault.RangeFault.TheVariants.{NoSuspects, TooManySuspects, WeightRange, CalmRange, RepeatedCommit}
use Rattle.weight_exact.specs.Limits.{is_calm, is_weight}
use Rattle.weight_exact.specs.declared.limits.TheConstants.{MAX_SUSPECTS}

-- whether the weight of a suspect is out of range
abbrev pub has_bad_weight : Suspect → Bool
has_bad_weight suspect = not (is_weight suspect.weight)

-- the position of the first suspect whose weight is out of range
abbrev pub first_bad_weight : List Suspect → Option ℕ
first_bad_weight suspects = option_map (λ index. index + 1) (position has_bad_weight suspects)

-- whether a commit is one of the suspects'
abbrev pub is_among : CommitId → List Suspect → Bool
is_among commit suspects = list_any (λ suspect. same_id suspect.commit commit) suspects

-- whether the commit at a position stands at an earlier position too
abbrev pub is_repeat : CommitId → List Suspect → ℕ → Bool
is_repeat base suspects position =
    list_any (λ earlier. same_id earlier (commit_at base suspects position)) (take position (commits_of base suspects))

-- the first position from 1 on whose commit stands at an earlier position too
abbrev pub first_repeat : CommitId → List Suspect → Option ℕ
first_repeat base suspects = find (is_repeat base suspects) (range_with_len 1 (length suspects))

-- too few or too many
abbrev pub count_fault : ℕ → Option RangeFault
count_fault count =
    if count == 0 then Some NoSuspects else if nat_lt MAX_SUSPECTS count then Some (TooManySuspects count) else None

-- a calm weight out of range
abbrev pub calm_fault : ℕ → Option RangeFault
calm_fault calm = if is_calm calm then None else Some (CalmRange calm)

-- why suspects make no range, if they make none: the first that stands of their count, a weight, the calm weight and
-- a repeated commit
abbrev pub range_fault : CommitId → List Suspect → ℕ → Option RangeFault
range_fault base suspects calm =
    option_or (count_fault (length suspects))
    (option_or (option_map WeightRange (first_bad_weight suspects))
    (option_or (calm_fault calm) (option_map RepeatedCommit (first_repeat base suspects))))
