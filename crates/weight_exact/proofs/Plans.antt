-- The plan: its positions are the nearest, there is one nearest, and common factors cancel.
use Rattle.std.proofs.Common.{◌≡◌, ℕ, zero, suc, ◌+◌, ◌*◌, ◌-◌, ◌<◌, ◌≤◌, true, false, nat_lt, List, [], ◌∷◌, length, refl, sym, ap, ◌∙◌, ap₂, subst, slice_index, add-one, ext_get_or, arith, ⊎_elim, mul_comm, mul_right_comm, add-mul, mul-lt-mul_of_pos_right, lt_of_mul-lt-mul_right, ltb-true, ltb-false, lt-ltb, le-ltb}
use Rattle.std.proofs.Math.Nat.{mul-sub}
use Rattle.std.proofs.lemmas.Bool.{cases_Bool, cases_lt, cases_order}
use Rattle.std.proofs.lemmas.List.{length_push, get_or_push, get_or_append_left}
use Rattle.std.specs.Int.{abs_diff}
use Rattle.weight_exact.specs.Weights.{Setup, cumulative, total, suspects}
use Rattle.weight_exact.specs.Load.{floor}
use Rattle.weight_exact.specs.Plan.{distance, IsNearest, nearest, pick, picks}
use Rattle.weight_exact.specs.declared.run.Run.{Run}

-- ---- the nearest position

-- one position further off is no nearer: the best so far stays
IsNearest-keeps : (away : ℕ → ℕ) (low n best : ℕ) → IsNearest away low n best → away best ≤ away (n + 1) →
    IsNearest away low (n + 1) best
IsNearest-keeps away low n best is far =
    record {
      above = is.above;
      within = omega (arith, is.within);
      least = λ q above within.
          ⊎_elim
          (λ (before : q < n + 1). is.least q above (omega arith))
          (λ (last : n + 1 ≤ q). let here : q ≡ n + 1 = omega arith in rw here far)
          (cases_lt q (n + 1));
      smaller = is.smaller;
    }

-- one position further on is nearer: it is the best
IsNearest-takes : (away : ℕ → ℕ) (low n best : ℕ) → IsNearest away low n best → away (n + 1) < away best →
    IsNearest away low (n + 1) (n + 1)
IsNearest-takes away low n best is near =
    record {
      above = omega (arith, is.above, is.within);
      within = omega arith;
      least = λ q above within.
          ⊎_elim
          (λ (before : q < n + 1). omega (arith, is.least q above (omega arith)))
          (λ (last : n + 1 ≤ q). let here : q ≡ n + 1 = omega arith in rw here (omega arith))
          (cases_lt q (n + 1));
      smaller = λ q above before. omega (arith, is.least q above (omega arith));
    }

-- the first position above the floor is the best of one
IsNearest-first : (away : ℕ → ℕ) (low : ℕ) → IsNearest away low (low + 1) (low + 1)
IsNearest-first away low =
    record {
      above = omega arith;
      within = omega arith;
      least = λ q above within. let here : q ≡ low + 1 = omega arith in rw here (omega arith);
      smaller = λ q above before. absurd (omega arith);
    }

-- the computed position is the nearest of `more` + 1
pub IsNearest-nearest : (away : ℕ → ℕ) (low more : ℕ) → IsNearest away low (low + 1 + more) (nearest away low more)
IsNearest-nearest away low zero = let e : low + 1 + 0 ≡ low + 1 = omega arith in rw e (IsNearest-first away low)
IsNearest-nearest away low (suc more) =
    let n = low + 1 + more in
    let best = nearest away low more in
    let before : IsNearest away low n best = IsNearest-nearest away low more in
    let e : low + 1 + suc more ≡ n + 1 = omega arith in
    rw e
    (⊎_elim
    (λ (near : nat_lt (away (n + 1)) (away best) ≡ true).
    rw near (IsNearest-takes away low n best before (ltb-true (away (n + 1)) (away best) near)))
    (λ (far : nat_lt (away (n + 1)) (away best) ≡ false).
    rw far (IsNearest-keeps away low n best before (ltb-false (away (n + 1)) (away best) far)))
    (cases_Bool (nat_lt (away (n + 1)) (away best))))

-- the nearest position up to n
pub IsNearest-upto : (away : ℕ → ℕ) (low n : ℕ) → low < n → IsNearest away low n (nearest away low (n - low - 1))
IsNearest-upto away low n some =
    let e : low + 1 + (n - low - 1) ≡ n = omega arith in
    let P : ℕ → Type 0 = λ m. IsNearest away low m (nearest away low (n - low - 1)) in
    subst P e (IsNearest-nearest away low (n - low - 1))

-- at most one position is nearest
pub IsNearest_once : (away : ℕ → ℕ) (low n i j : ℕ) → IsNearest away low n i → IsNearest away low n j → i ≡ j
IsNearest_once away low n i j first second =
    ⊎_elim
    (λ (same : i ≡ j). same)
    (⊎_elim
    (λ (less : i < j).
    absurd (omega (arith, second.smaller i first.above less, first.least j second.above second.within)))
    (λ (more : j < i).
    absurd (omega (arith, first.smaller j second.above more, second.least i first.above first.within))))
    (cases_order i j)

-- so a nearest position is the computed one
pub IsNearest-is : (away : ℕ → ℕ) (low n i : ℕ) → low < n → IsNearest away low n i →
    i ≡ nearest away low (n - low - 1)
IsNearest-is away low n i some is =
    IsNearest_once away low n i (nearest away low (n - low - 1)) is (IsNearest-upto away low n some)

-- ---- the positions of a plan

pub length-picks : (s : Setup) (runs : List Run) (k n : ℕ) → length (picks s runs k n) ≡ n
length-picks s runs k zero = refl
length-picks s runs k (suc n) =
    omega (arith, length_push (picks s runs k n) (pick s runs k (suc n)), length-picks s runs k n)

pub slice_index-picks : (s : Setup) (runs : List Run) (k n j : ℕ) → j < n →
    slice_index (picks s runs k n) j ≡ pick s runs k (j + 1)
slice_index-picks s runs k zero j less = absurd (omega arith)
slice_index-picks s runs k (suc n) j less =
    ⊎_elim
    (λ (before : j < n).
    get_or_append_left (picks s runs k n) (pick s runs k (suc n) ∷ []) 0 j (omega (arith, length-picks s runs k n)) ∙
    slice_index-picks s runs k n j before)
    (λ (last : n ≤ j).
    let here : j ≡ n = omega arith in
    rw (here, add-one n) (get_or_push (picks s runs k n) (pick s runs k (suc n)) 0 n (length-picks s runs k n)))
    (cases_lt j n)

-- ---- common factors

-- two ways to measure that order the positions alike have one nearest
pub nearest-same : (away other : ℕ → ℕ) (low more : ℕ) →
    ((p q : ℕ) → low < p → p ≤ low + 1 + more → low < q → q ≤ low + 1 + more →
    nat_lt (away p) (away q) ≡ nat_lt (other p) (other q)) →
    nearest away low more ≡ nearest other low more
nearest-same away other low zero agree = refl
nearest-same away other low (suc more) agree =
    let best = nearest away low more in
    let next = low + 1 + suc more in
    let same : best ≡ nearest other low more =
    nearest-same away other low more
    (λ p q above_p within_p above_q within_q. agree p q above_p (omega arith) above_q (omega arith)) in
    let is : IsNearest away low (low + 1 + more) best = IsNearest-nearest away low more in
    let tests : nat_lt (away next) (away best) ≡ nat_lt (other next) (other best) =
    agree next best (omega arith) (omega arith) is.above (omega (arith, is.within)) in
    rw (tests, same)

-- scaling keeps the difference
pub abs_diff-mul : (x y k : ℕ) → abs_diff (x * k) (y * k) ≡ abs_diff x y * k
abs_diff-mul x y k =
    let left : k * (x - y) ≡ k * x - k * y = mul-sub k x y in
    let right : k * (y - x) ≡ k * y - k * x = mul-sub k y x in
    rw (mul_comm x k, mul_comm y k, add-mul (x - y) (y - x) k, mul_comm (x - y) k, mul_comm (y - x) k, left, right)

-- the distances of two cumulative weights that are the same part of their totals
distance_scaled : (whole other j k x y : ℕ) → x * other ≡ y * whole →
    distance whole j k x * other ≡ distance other j k y * whole
distance_scaled whole other j k x y same =
    let sums : x * (k + 1) * other ≡ y * (k + 1) * whole =
    mul_right_comm x (k + 1) other ∙ (ap (λ n. n * (k + 1)) same ∙ mul_right_comm y whole (k + 1)) in
    let thresholds : j * whole * other ≡ j * other * whole = mul_right_comm j whole other in
    sym (abs_diff-mul (x * (k + 1)) (j * whole) other) ∙
    (ap₂ abs_diff sums thresholds ∙ abs_diff-mul (y * (k + 1)) (j * other) whole)

-- scaled numbers are ordered as the numbers are
below_scaled : (a b c d m n : ℕ) → 1 ≤ m → a * m ≡ c * n → b * m ≡ d * n → a < b → c < d
below_scaled a b c d m n some first second less =
    let scaled : a * m < b * m = mul-lt-mul_of_pos_right less some in
    lt_of_mul-lt-mul_right n (omega arith)

pub test_scaled : (a b c d m n : ℕ) → 1 ≤ m → 1 ≤ n → a * m ≡ c * n → b * m ≡ d * n → nat_lt a b ≡ nat_lt c d
test_scaled a b c d m n some_m some_n first second =
    ⊎_elim
    (λ (less : a < b). lt-ltb a b less ∙ sym (lt-ltb c d (below_scaled a b c d m n some_m first second less)))
    (λ (not_less : b ≤ a).
    le-ltb a b not_less ∙
    sym
    (le-ltb c d
    (⊎_elim
    (λ (less : c < d). absurd (omega (arith, below_scaled c d a b n m some_n (sym first) (sym second) less)))
    (λ (not : d ≤ c). not)
    (cases_lt c d))))
    (cases_lt a b)

-- the nearest position depends on the cumulative weights only as parts of the total
pub nearest-scaled : (sums others : ℕ → ℕ) (whole other j k low more : ℕ) → 1 ≤ whole → 1 ≤ other →
    ((i : ℕ) → low < i → i ≤ low + 1 + more → sums i * other ≡ others i * whole) →
    nearest (λ i. distance whole j k (sums i)) low more ≡ nearest (λ i. distance other j k (others i)) low more
nearest-scaled sums others whole other j k low more some_whole some_other same =
    let a : ℕ → ℕ = λ i. distance whole j k (sums i) in
    let b : ℕ → ℕ = λ i. distance other j k (others i) in
    nearest-same a b low more
    (λ p q above_p within_p above_q within_q.
    test_scaled (a p) (a q) (b p) (b q) other whole some_other some_whole
    (distance_scaled whole other j k (sums p) (others p) (same p above_p within_p))
    (distance_scaled whole other j k (sums q) (others q) (same q above_q within_q)))

-- so a position of the plan may be computed from any such sums
pub pick-scaled : (s : Setup) (runs : List Run) (sums : ℕ → ℕ) (whole k j : ℕ) → floor s.factors runs < suspects s →
    1 ≤ whole → 1 ≤ total s runs →
    ((i : ℕ) → floor s.factors runs < i → i ≤ suspects s → sums i * total s runs ≡ cumulative s runs i * whole) →
    pick s runs k j
    ≡ nearest (λ i. distance whole j k (sums i)) (floor s.factors runs) (suspects s - floor s.factors runs - 1)
pick-scaled s runs sums whole k j some some_whole some_total same =
    let low = floor s.factors runs in
    sym
    (nearest-scaled sums (cumulative s runs) whole (total s runs) j k low (suspects s - low - 1) some_whole some_total
    (λ i above within. same i above (omega arith)))

-- and what is nearest by any such sums is the position of the plan
pub IsNearest-scaled : (s : Setup) (runs : List Run) (sums : ℕ → ℕ) (whole k j i : ℕ) →
    floor s.factors runs < suspects s → 1 ≤ whole → 1 ≤ total s runs →
    ((i : ℕ) → floor s.factors runs < i → i ≤ suspects s → sums i * total s runs ≡ cumulative s runs i * whole) →
    IsNearest (λ i. distance whole j k (sums i)) (floor s.factors runs) (suspects s) i → i ≡ pick s runs k j
IsNearest-scaled s runs sums whole k j i some some_whole some_total same is =
    IsNearest-is (λ i. distance whole j k (sums i)) (floor s.factors runs) (suspects s) i some is ∙
    sym (pick-scaled s runs sums whole k j some some_whole some_total same)

-- one more position of a plan, as a list that is built up
pub picks-is : (s : Setup) (runs : List Run) (k n : ℕ) (positions : List ℕ) → length positions ≡ n →
    ((j : ℕ) → j < n → slice_index positions j ≡ pick s runs k (j + 1)) → positions ≡ picks s runs k n
picks-is s runs k n positions length_is each =
    ext_get_or 0 positions (picks s runs k n) (length_is ∙ sym (length-picks s runs k n))
    (λ j less. each j (omega arith) ∙ sym (slice_index-picks s runs k n j (omega arith)))
