-- Plans over open positions: all picks or none, and the plan of all positions where nothing was skipped.
use Rattle.std.proofs.Common.{◌≡◌, ℕ, zero, suc, ◌+◌, ◌-◌, ◌<◌, ◌≤◌, ◌⊎◌, inl, inr, ◌↔◌, Bool, true, Option, Some, None, List, [], length, map, slice_index, refl, sym, ap, ◌∙◌, arith, ⊎_elim, subst}
use Rattle.std.proofs.lemmas.Bool.{cases_lt, false≢true}
use Rattle.std.proofs.lemmas.List.FromFn.{length-map-range_with_len, get_or-map-range_with_len}
use Rattle.std.specs.List.{filter_map, range_with_len}
use Rattle.weight_exact.specs.Load.{floor}
use Rattle.weight_exact.specs.Plan.{distance, nearest, pick, plan}
use Rattle.weight_exact.specs.Weights.{Setup, cumulative, suspects, total}
use Rattle.weight_exact.specs.declared.run.Run.{Run}
use Rattle.weight_exact.proofs.Plans.{picks-is}
use Rattle.threshold_pick.specs.Open.{is_open, nearer, nearest_open, open_pick, open_plan}
use Rattle.threshold_pick.specs.Nearest.{AreShut, IsNearestOrNone}
use Rattle.threshold_pick.proofs.Nearest.{IsNearestOrNone-upto}

-- ---- nothing skipped

-- where each position passes, the nearest of all is the nearest that passes
nearest_open-all : (away : ℕ → ℕ) (low more : ℕ) →
    nearest_open (is_open []) away low (suc more) ≡ Some (nearest away low more)
nearest_open-all away low zero = refl
nearest_open-all away low (suc more) =
    let e : low + suc (suc more) ≡ low + 1 + suc more = omega arith in
    let before : nearest_open (is_open []) away low (suc more) ≡ Some (nearest away low more) =
    nearest_open-all away low more in
    ap (λ (best : Option ℕ). Some (nearer away best (low + suc (suc more)))) before
    ∙ ap (λ (i : ℕ). Some (nearer away (Some (nearest away low more)) i)) e

pub open_pick-nothing_skipped : (s : Setup) (runs : List Run) (k j : ℕ) → floor s.factors runs < suspects s →
    open_pick s runs [] k j ≡ Some (pick s runs k j)
open_pick-nothing_skipped s runs k j some =
    let low = floor s.factors runs in
    let away : ℕ → ℕ = λ i. distance (total s runs) j k (cumulative s runs i) in
    let e : suspects s - low ≡ suc (suspects s - low - 1) = omega arith in
    ap (λ (more : ℕ). nearest_open (is_open []) away low more) e
    ∙ nearest_open-all away low (suspects s - low - 1)

-- ---- all or none

-- what an option holds, or 0
abbrev held : Option ℕ → ℕ
held None = 0
held (Some i) = i

-- where a function gives something for each number of a range, all of that is in the list
filter_map-all : (f : ℕ → Option ℕ) (g : ℕ → ℕ) (a n : ℕ) → ((j : ℕ) → f j ≡ Some (g j)) →
    filter_map f (range_with_len a n) ≡ map g (range_with_len a n)
filter_map-all f g a zero each = refl
filter_map-all f g a (suc n) each = rw (each a, filter_map-all f g (a + 1) n each) refl

-- where it gives nothing, the list is empty
filter_map-none : (f : ℕ → Option ℕ) (a n : ℕ) → ((j : ℕ) → f j ≡ None) → filter_map f (range_with_len a n) ≡ []
filter_map-none f a zero each = refl
filter_map-none f a (suc n) each = rw (each a, filter_map-none f (a + 1) n each) refl

-- what makes the picks of a plan, at one threshold
pub open_pick-is : (s : Setup) (runs : List Run) (skipped : List ℕ) (k j : ℕ) →
    IsNearestOrNone (is_open skipped) (λ i. distance (total s runs) j k (cumulative s runs i))
    (floor s.factors runs) (suspects s) (open_pick s runs skipped k j)
open_pick-is s runs skipped k j =
    let low = floor s.factors runs in
    let away : ℕ → ℕ = λ i. distance (total s runs) j k (cumulative s runs i) in
    ⊎_elim
    (λ (past : suspects s < low).
    let e : suspects s - low ≡ 0 = omega arith in
    subst
    (λ (more : ℕ).
    IsNearestOrNone (is_open skipped) away low (suspects s) (nearest_open (is_open skipped) away low more))
    (sym e) (λ q above within. absurd (omega arith)))
    (λ (order : low ≤ suspects s). IsNearestOrNone-upto (is_open skipped) away low (suspects s) order)
    (cases_lt (suspects s) low)

-- none, where no position is open
picked_none : (test : ℕ → Bool) (away : ℕ → ℕ) (low n : ℕ) (answer : Option ℕ) →
    IsNearestOrNone test away low n answer → AreShut test low n → answer ≡ None
picked_none test away low n None shut are = refl
picked_none test away low n (Some best) is are = absurd (false≢true (sym (are best is.above is.within) ∙ is.passes))

-- one, where another threshold has one
picked_some : (test : ℕ → Bool) (away : ℕ → ℕ) (low n i : ℕ) (answer : Option ℕ) →
    IsNearestOrNone test away low n answer → low < i → i ≤ n → test i ≡ true → answer ≡ Some (held answer)
picked_some test away low n i None shut above within passes = absurd (false≢true (sym (shut i above within) ∙ passes))
picked_some test away low n i (Some best) is above within passes = refl

-- no position open, or each threshold has its pick
data AllOrNone (s : Setup) (runs : List Run) (skipped : List ℕ) (k : ℕ) : Type 0 where
  none : AreShut (is_open skipped) (floor s.factors runs) (suspects s) → AllOrNone s runs skipped k
  all : ((j : ℕ) → open_pick s runs skipped k j ≡ Some (held (open_pick s runs skipped k j)))
      → AllOrNone s runs skipped k

all_or_none-by : (s : Setup) (runs : List Run) (skipped : List ℕ) (k : ℕ) (away : ℕ → ℕ) (first : Option ℕ) →
    IsNearestOrNone (is_open skipped) away (floor s.factors runs) (suspects s) first →
    AllOrNone s runs skipped k
all_or_none-by s runs skipped k away None shut = none shut
all_or_none-by s runs skipped k away (Some i) is =
    all
    (λ j.
    picked_some (is_open skipped) (λ q. distance (total s runs) j k (cumulative s runs q)) (floor s.factors runs)
    (suspects s) i (open_pick s runs skipped k j) (open_pick-is s runs skipped k j) is.above is.within is.passes)

all_or_none : (s : Setup) (runs : List Run) (skipped : List ℕ) (k : ℕ) → AllOrNone s runs skipped k
all_or_none s runs skipped k =
    all_or_none-by s runs skipped k (λ i. distance (total s runs) 1 k (cumulative s runs i))
    (open_pick s runs skipped k 1) (open_pick-is s runs skipped k 1)

-- no position open: no plan
open_plan-none : (s : Setup) (runs : List Run) (skipped : List ℕ) (k : ℕ) →
    AreShut (is_open skipped) (floor s.factors runs) (suspects s) → open_plan s runs skipped k ≡ []
open_plan-none s runs skipped k shut =
    filter_map-none (open_pick s runs skipped k) 1 k
    (λ j.
    picked_none (is_open skipped) (λ q. distance (total s runs) j k (cumulative s runs q)) (floor s.factors runs)
    (suspects s) (open_pick s runs skipped k j) (open_pick-is s runs skipped k j) shut)

-- else all picks
open_plan-all : (s : Setup) (runs : List Run) (skipped : List ℕ) (k : ℕ) →
    ((j : ℕ) → open_pick s runs skipped k j ≡ Some (held (open_pick s runs skipped k j))) →
    open_plan s runs skipped k ≡ map (λ j. held (open_pick s runs skipped k j)) (range_with_len 1 k)
open_plan-all s runs skipped k each =
    filter_map-all (open_pick s runs skipped k) (λ j. held (open_pick s runs skipped k j)) 1 k each

length-all : (s : Setup) (runs : List Run) (skipped : List ℕ) (k : ℕ) →
    ((j : ℕ) → open_pick s runs skipped k j ≡ Some (held (open_pick s runs skipped k j))) →
    length (open_plan s runs skipped k) ≡ k
length-all s runs skipped k each =
    ap length (open_plan-all s runs skipped k each)
    ∙ length-map-range_with_len (λ j. held (open_pick s runs skipped k j)) 1 k

-- ---- the laws

pub length-open_plan : (s : Setup) (runs : List Run) (skipped : List ℕ) (k : ℕ) →
    (length (open_plan s runs skipped k) ≡ k) ⊎ (open_plan s runs skipped k ≡ [])
length-open_plan s runs skipped k =
    elim (all_or_none s runs skipped k) as (λ (x : AllOrNone s runs skipped k).
    (length (open_plan s runs skipped k) ≡ k) ⊎ (open_plan s runs skipped k ≡ [])) [
      | none shut ↦ inr (open_plan-none s runs skipped k shut)
      | all each ↦ inl (length-all s runs skipped k each)
    ]

shut-from_empty : (s : Setup) (runs : List Run) (skipped : List ℕ) (k : ℕ) → 1 ≤ k → AllOrNone s runs skipped k →
    open_plan s runs skipped k ≡ [] → AreShut (is_open skipped) (floor s.factors runs) (suspects s)
shut-from_empty s runs skipped k some (none shut) empty = shut
shut-from_empty s runs skipped k some (all each) empty =
    let k_is : length (open_plan s runs skipped k) ≡ k = length-all s runs skipped k each in
    let zero_is : length (open_plan s runs skipped k) ≡ 0 = ap length empty in
    absurd (omega (arith, k_is, zero_is, some))

pub open_plan_empty : (s : Setup) (runs : List Run) (skipped : List ℕ) (k : ℕ) → 1 ≤ k →
    (open_plan s runs skipped k ≡ []) ↔ AreShut (is_open skipped) (floor s.factors runs) (suspects s)
open_plan_empty s runs skipped k some =
    (shut-from_empty s runs skipped k some (all_or_none s runs skipped k), open_plan-none s runs skipped k)

slice_index-by : (s : Setup) (runs : List Run) (skipped : List ℕ) (k j : ℕ) → AllOrNone s runs skipped k →
    j < length (open_plan s runs skipped k) →
    open_pick s runs skipped k (j + 1) ≡ Some (slice_index (open_plan s runs skipped k) j)
slice_index-by s runs skipped k j (none shut) less =
    let e : length (open_plan s runs skipped k) ≡ 0 = ap length (open_plan-none s runs skipped k shut) in
    absurd (omega (arith, e, less))
slice_index-by s runs skipped k j (all each) less =
    let g : ℕ → ℕ = λ i. held (open_pick s runs skipped k i) in
    let k_is : length (open_plan s runs skipped k) ≡ k = length-all s runs skipped k each in
    let next : 1 + j ≡ j + 1 = omega arith in
    let there : slice_index (map g (range_with_len 1 k)) j ≡ g (j + 1) =
    get_or-map-range_with_len g 1 k j (j + 1) 0 (omega (arith, k_is, less)) next in
    let here : slice_index (open_plan s runs skipped k) j ≡ g (j + 1) =
    ap (λ (xs : List ℕ). slice_index xs j) (open_plan-all s runs skipped k each) ∙ there in
    each (j + 1) ∙ ap Some (sym here)

pub slice_index-open_plan : (s : Setup) (runs : List Run) (skipped : List ℕ) (k j : ℕ) →
    j < length (open_plan s runs skipped k) →
    open_pick s runs skipped k (j + 1) ≡ Some (slice_index (open_plan s runs skipped k) j)
slice_index-open_plan s runs skipped k j = slice_index-by s runs skipped k j (all_or_none s runs skipped k)

-- with nothing skipped the plan is that of all positions
pub open_plan-nothing_skipped : (s : Setup) (runs : List Run) (k : ℕ) → floor s.factors runs < suspects s →
    open_plan s runs [] k ≡ plan s runs k
open_plan-nothing_skipped s runs k some =
    let g : ℕ → ℕ = λ j. pick s runs k j in
    let all_are : open_plan s runs [] k ≡ map g (range_with_len 1 k) =
    filter_map-all (open_pick s runs [] k) g 1 k (λ j. open_pick-nothing_skipped s runs k j some) in
    all_are
    ∙ picks-is s runs k k (map g (range_with_len 1 k)) (length-map-range_with_len g 1 k)
    (λ j less. get_or-map-range_with_len g 1 k j (j + 1) 0 less (omega arith))
