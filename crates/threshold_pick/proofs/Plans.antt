-- Picks over the sums of a search are its plan.
use Rattle.std.proofs.Common.{◌≡◌, ◌≢◌, ℕ, ◌+◌, ◌-◌, ◌<◌, ◌≤◌, List, length, slice_index, slice_set, subst, sym, ap, ◌∙◌, ⊎_elim, arith}
use Rattle.std.proofs.lemmas.Bool.{cases_lt}
use Rattle.std.proofs.lemmas.List.{get_or-set_same, get_or-set_other}
use Rattle.weight_exact.specs.Load.{floor}
use Rattle.weight_exact.specs.Plan.{IsNearest, pick, plan}
use Rattle.weight_exact.specs.Weights.{Setup, suspects, total}
use Rattle.weight_exact.specs.declared.run.Run.{Run}
use Rattle.weight_exact.proofs.Plans.{IsNearest-scaled, picks-is}
use Rattle.threshold_pick.specs.Sums.{sum_at, whole, suspects_in}
use Rattle.threshold_pick.specs.Picks.{away, IsPick, ArePicks}
use Rattle.threshold_pick.specs.Cumulative.{AreCumulative}

-- what is picked over the sums of a search is a position of its plan
pub IsPick-pick : (s : Setup) (runs : List Run) (sums : List ℕ) (j k i : ℕ) → AreCumulative s runs sums →
    1 ≤ total s runs → floor s.factors runs < suspects s → IsPick sums (floor s.factors runs) j k i →
    i ≡ pick s runs k j
IsPick-pick s runs sums j k i are_sums some_total some_left is =
    let e : suspects_in sums ≡ suspects s = ap (λ n. n - 1) are_sums.one_each in
    let P : ℕ → Type 0 = λ n. IsNearest (away sums j k) (floor s.factors runs) n i in
    IsNearest-scaled s runs (sum_at sums) (whole sums) k j i some_left are_sums.some some_total
    (λ q above within. are_sums.parts q (omega arith) (omega arith))
    (subst P e is)

-- a list of picks, with the next one set
pub IsPick-set : (sums : List ℕ) (floor k index next : ℕ) (out : List ℕ) → index < length out →
    ((j : ℕ) → 1 ≤ j → j ≤ index → IsPick sums floor j k (slice_index out (j - 1))) →
    IsPick sums floor (index + 1) k next →
    (j : ℕ) → 1 ≤ j → j ≤ index + 1 → IsPick sums floor j k (slice_index (slice_set out index next) (j - 1))
IsPick-set sums floor k index next out within before here j some upto =
    let P : ℕ → Type 0 = λ i. IsPick sums floor j k i in
    ⊎_elim
    (λ (earlier : j < index + 1).
    let other : j - 1 ≢ index = omega arith in
    subst P (sym (get_or-set_other out index (j - 1) next 0 other)) (before j some (omega arith)))
    (λ (last : index + 1 ≤ j).
    let e : j ≡ index + 1 = omega arith in
    let at : j - 1 ≡ index = omega arith in
    let set_here : slice_index (slice_set out index next) (j - 1) ≡ next =
    ap (λ p. slice_index (slice_set out index next) p) at ∙ get_or-set_same out index next 0 within in
    subst P (sym set_here) (rw e here))
    (cases_lt j (index + 1))

-- so a list of picks is the plan
pub ArePicks-plan : (s : Setup) (runs : List Run) (sums positions : List ℕ) (k : ℕ) → AreCumulative s runs sums →
    1 ≤ total s runs → floor s.factors runs < suspects s → ArePicks sums (floor s.factors runs) k positions →
    positions ≡ plan s runs k
ArePicks-plan s runs sums positions k are_sums some_total some_left are =
    picks-is s runs k k positions are.width
    (λ j less.
    let e : j + 1 - 1 ≡ j = omega arith in
    let here : slice_index positions (j + 1 - 1) ≡ pick s runs k (j + 1) =
    IsPick-pick s runs sums (j + 1) k (slice_index positions (j + 1 - 1)) are_sums some_total some_left
    (are.each (j + 1) (omega arith) (omega arith)) in
    rw e at here)
