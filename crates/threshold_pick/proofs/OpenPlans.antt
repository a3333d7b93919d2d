-- Picks among the open positions over the sums of a search are its plan.
use Rattle.std.proofs.Common.{◌≡◌, ℕ, zero, suc, ◌+◌, ◌-◌, ◌*◌, ◌<◌, ◌≤◌, Bool, true, false, nat_le, nat_lt, Option, List, refl, ap, ◌∙◌, arith, ⊎_elim, if◌then◌else◌}
use Rattle.std.proofs.lemmas.Bool.{cases_lt}
use Rattle.std.specs.List.{filter_map, range_with_len}
use Rattle.weight_exact.specs.Load.{floor}
use Rattle.weight_exact.specs.Plan.{distance}
use Rattle.weight_exact.specs.Weights.{Setup, cumulative, suspects, total}
use Rattle.weight_exact.specs.declared.run.Run.{Run}
use Rattle.weight_exact.proofs.Plans.{nearest-scaled}
use Rattle.threshold_pick.specs.Open.{is_open, nearest_open, open_pick, open_plan}
use Rattle.threshold_pick.proofs.Nearest.{nearest_open-same}
use Rattle.threshold_pick.specs.Sums.{sum_at, suspects_in, whole}
use Rattle.threshold_pick.specs.Picks.{away, open_pick_in, open_plan_in}
use Rattle.threshold_pick.specs.Cumulative.{AreCumulative}

-- two numbers, the first at 1
abbrev two : ℕ → ℕ → ℕ → ℕ
two x y i = if nat_le i 1 then x else y

same_tests : (b c : Bool) (one more : ℕ) → one < more → (if b then more else one) ≡ (if c then more else one) → b ≡ c
same_tests true true one more less e = refl
same_tests false false one more less e = refl
same_tests true false one more less e = absurd (omega (arith, e, less))
same_tests false true one more less e = absurd (omega (arith, e, less))

-- two sums that are the same parts of their wholes are as near to a threshold, one against the other
test_scaled : (whole_ other j k x y v w : ℕ) → 1 ≤ whole_ → 1 ≤ other → x * other ≡ v * whole_ →
    y * other ≡ w * whole_ →
    nat_lt (distance whole_ j k x) (distance whole_ j k y) ≡ nat_lt (distance other j k v) (distance other j k w)
test_scaled whole_ other j k x y v w some_whole some_other first second =
    same_tests (nat_lt (distance whole_ j k x) (distance whole_ j k y))
    (nat_lt (distance other j k v) (distance other j k w)) 1 2 (omega arith)
    (nearest-scaled (two y x) (two w v) whole_ other j k 0 1 some_whole some_other
    (λ i above within.
    ⊎_elim
    (λ (first_ : i < 2). let e : i ≡ 1 = omega arith in rw e second)
    (λ (last : 2 ≤ i). let e : i ≡ 2 = omega arith in rw e first)
    (cases_lt i 2)))

pub open_pick_in-open_pick : (s : Setup) (runs : List Run) (sums skipped : List ℕ) (j k : ℕ) →
    AreCumulative s runs sums → 1 ≤ total s runs →
    open_pick_in sums (floor s.factors runs) skipped j k ≡ open_pick s runs skipped k j
open_pick_in-open_pick s runs sums skipped j k are some =
    let low = floor s.factors runs in
    let n : suspects_in sums ≡ suspects s = ap (λ n. n - 1) are.one_each in
    let far : ℕ → ℕ = λ i. distance (total s runs) j k (cumulative s runs i) in
    ap (λ (m : ℕ). nearest_open (is_open skipped) (away sums j k) low (m - low)) n
    ∙ nearest_open-same (is_open skipped) (away sums j k) far low (suspects s - low)
    (λ p q above_p within_p above_q within_q.
    test_scaled (whole sums) (total s runs) j k (sum_at sums p) (sum_at sums q) (cumulative s runs p)
    (cumulative s runs q) are.some some (are.parts p (omega arith) (omega arith))
    (are.parts q (omega arith) (omega arith)))

filter_map-same : (f g : ℕ → Option ℕ) (a n : ℕ) → ((j : ℕ) → f j ≡ g j) →
    filter_map f (range_with_len a n) ≡ filter_map g (range_with_len a n)
filter_map-same f g a zero same = refl
filter_map-same f g a (suc n) same = rw (same a, filter_map-same f g (a + 1) n same) refl

pub open_plan_in-open_plan : (s : Setup) (runs : List Run) (sums skipped : List ℕ) (k : ℕ) →
    AreCumulative s runs sums → 1 ≤ total s runs →
    open_plan_in sums (floor s.factors runs) skipped k ≡ open_plan s runs skipped k
open_plan_in-open_plan s runs sums skipped k are some =
    filter_map-same (λ j. open_pick_in sums (floor s.factors runs) skipped j k) (open_pick s runs skipped k) 1 k
    (λ j. open_pick_in-open_pick s runs sums skipped j k are some)
