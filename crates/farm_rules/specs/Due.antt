-- Where a search is to run next, given what runs already. Positions stand in lists, and one that runs twice stands
-- twice.
use Rattle.std.specs.Prelude.{ℕ, ◌+◌, ◌-◌, ◌==◌, nat_lt, List, [], ◌∷◌, length, count_by, if◌then◌else◌, Option, Some, None}

-- a plan without its first entry at a position, where it has one
abbrev pub strike : (position : ℕ) → List ℕ → List ℕ
strike position [] = []
strike position (entry ∷ plan) = if entry == position then plan else entry ∷ strike position plan

-- a plan without the entries that outstanding runs stand for, one for each run, in the order of the runs
abbrev pub struck : (plan outstanding : List ℕ) → List ℕ
struck plan [] = plan
struck plan (position ∷ outstanding) = struck (strike position plan) outstanding

-- the first entry of a plan
abbrev pub first_entry : List ℕ → Option ℕ
first_entry [] = None
first_entry (entry ∷ plan) = Some entry

-- The position that a searching search is to run next: the first entry of its plan that is left, while fewer runs are
-- outstanding than its plan has entries. A run at a position that the plan no longer has takes up room and strikes
-- nothing
abbrev pub due_search : (plan outstanding : List ℕ) → Option ℕ
due_search plan outstanding =
    if nat_lt (length outstanding) (length plan) then first_entry (struck plan outstanding) else None

-- how often a position stands in a list
abbrev pub times_at : (position : ℕ) → List ℕ → ℕ
times_at position positions = count_by (λ p. p == position) positions

-- The position that a verifying search is to run next: the culprit's, and then its parent's, the tree just below it,
-- while the reruns counted there and the runs outstanding there are fewer than the reruns asked for
abbrev pub due_verify : (culprit at_culprit at_parent : ℕ) → (outstanding : List ℕ) → (reruns : ℕ) → Option ℕ
due_verify culprit at_culprit at_parent outstanding reruns =
    if nat_lt (at_culprit + times_at culprit outstanding) reruns then Some culprit
    else (if nat_lt (at_parent + times_at (culprit - 1) outstanding) reruns then Some (culprit - 1)
    else None)
