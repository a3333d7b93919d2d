-- What the reruns of a named suspect come to.
use Rattle.std.specs.Prelude.{ℕ, ◌-◌, ◌==◌, nat_le, nat_lt, Bool, true, false, ◌&&◌, ◌||◌, List, [], ◌∷◌, ◌++◌, count_by, if◌then◌else◌}
use Rattle.std.specs.List.{list_any}
use Rattle.weight_exact.specs.Counts.{is_fail_at, is_pass_at}
use Rattle.weight_exact.specs.declared.run.Run.{Run}

-- whether a rerun speaks against the culprit: it passed with the culprit in its tree, or failed with it out
abbrev pub is_against : (culprit : ℕ) → Run → Bool
is_against culprit r = is_pass_at culprit r || is_fail_at (culprit - 1) r

-- whether the culprit is vindicated: some rerun speaks against it
abbrev pub vindicated : (culprit : ℕ) → List Run → Bool
vindicated culprit reruns = list_any (is_against culprit) reruns

-- whether each side has the asked number of reruns that speak for the culprit: fails at it, passes at its parent
abbrev pub enough : (culprit asked : ℕ) → List Run → Bool
enough culprit asked reruns =
    nat_le asked (count_by (is_fail_at culprit) reruns) && nat_le asked (count_by (is_pass_at (culprit - 1)) reruns)

-- what a list of reruns comes to
pub data Outcome : Type 0 where
  verifying : Outcome
  confirmed : Outcome
  vindicating : Outcome

abbrev pub outcome : (culprit asked : ℕ) → List Run → Outcome
outcome culprit asked reruns =
    if vindicated culprit reruns then vindicating
    else (if enough culprit asked reruns then confirmed
    else verifying)

-- whether reruns go on
abbrev pub is_verifying : Outcome → Bool
is_verifying verifying = true
is_verifying _ = false

-- how many reruns of a list were made at a position
abbrev pub reruns_at : (position : ℕ) → List Run → ℕ
reruns_at position reruns = count_by (λ r. r.position == position) reruns

-- whether a further rerun counts: the reruns go on, and its side has fewer than the asked number
abbrev pub counts : (culprit asked : ℕ) → List Run → Run → Bool
counts culprit asked reruns r =
    is_verifying (outcome culprit asked reruns) && nat_lt (reruns_at r.position reruns) asked

-- the counted reruns after a further one, which is late where it doesn't count
abbrev pub after_rerun : (culprit asked : ℕ) → List Run → Run → List Run
after_rerun culprit asked reruns r = if counts culprit asked reruns r then reruns ++ r ∷ [] else reruns

-- the counted reruns after a list of further ones, in order
abbrev pub after_reruns : (culprit asked : ℕ) → List Run → List Run → List Run
after_reruns culprit asked reruns [] = reruns
after_reruns culprit asked reruns (r ∷ rs) = after_reruns culprit asked (after_rerun culprit asked reruns r) rs
