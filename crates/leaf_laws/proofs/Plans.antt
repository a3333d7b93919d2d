-- The plan: its positions are the nearest, and common factors cancel.
use Rattle.std.proofs.Common.{◌≡◌, ℕ, zero, suc, ◌+◌, ◌*◌, ◌<◌, ◌≤◌, List, [], ◌∷◌, ◌++◌, length, refl, ◌∙◌, ap₂, slice_index, arith, mul-one, mul_assoc, mul_right_comm}
use Rattle.weight_exact.specs.Weights.{Setup, cumulative, total, suspects}
use Rattle.weight_exact.specs.Load.{floor}
use Rattle.weight_exact.specs.Plan.{distance, IsNearest, nearest, pick, picks, plan}
use Rattle.weight_exact.specs.declared.run.Run.{Run}
use Rattle.weight_exact.proofs.Plans.{IsNearest-upto, length-picks, slice_index-picks, nearest-same, abs_diff-mul, test_scaled}

-- the j-th position of the plan is the nearest to its threshold
pub IsNearest-pick : (s : Setup) (runs : List Run) (k j : ℕ) → floor s.factors runs < suspects s →
    IsNearest (λ i. distance (total s runs) j k (cumulative s runs i))
    (floor s.factors runs) (suspects s) (pick s runs k j)
IsNearest-pick s runs k j some =
    IsNearest-upto (λ i. distance (total s runs) j k (cumulative s runs i)) (floor s.factors runs) (suspects s) some

-- a plan of width k has k positions
pub length-plan : (s : Setup) (runs : List Run) (k : ℕ) → length (plan s runs k) ≡ k
length-plan s runs k = length-picks s runs k k

-- the position at index j of a plan
pub slice_index-plan : (s : Setup) (runs : List Run) (k j : ℕ) → j < k →
    slice_index (plan s runs k) j ≡ pick s runs k (j + 1)
slice_index-plan s runs k j less = slice_index-picks s runs k k j less

-- a common positive factor of the sums and the total changes no position
distance-mul_right : (whole j k x m : ℕ) → distance (whole * m) j k (x * m) ≡ distance whole j k x * m
distance-mul_right whole j k x m =
    rw (mul_right_comm x m (k + 1), ← (mul_assoc j whole m)) (abs_diff-mul (x * (k + 1)) (j * whole) m)

pub nearest-mul_right : (sums : ℕ → ℕ) (whole j k low more m : ℕ) → 1 ≤ m →
    nearest (λ i. distance (whole * m) j k (sums i * m)) low more
    ≡ nearest (λ i. distance whole j k (sums i)) low more
nearest-mul_right sums whole j k low more m some =
    let a : ℕ → ℕ = λ i. distance (whole * m) j k (sums i * m) in
    let b : ℕ → ℕ = λ i. distance whole j k (sums i) in
    nearest-same a b low more
    (λ p q above_p within_p above_q within_q.
    test_scaled (a p) (a q) (b p) (b q) 1 m (omega arith) some
    (mul-one (a p) ∙ distance-mul_right whole j k (sums p) m)
    (mul-one (a q) ∙ distance-mul_right whole j k (sums q) m))

-- plans whose positions agree are equal
pub picks-same : (s other : Setup) (runs more : List Run) (k n : ℕ) →
    ((j : ℕ) → 1 ≤ j → j ≤ n → pick s runs k j ≡ pick other more k j) → picks s runs k n ≡ picks other more k n
picks-same s other runs more k zero same = refl
picks-same s other runs more k (suc n) same =
    let front : picks s runs k n ≡ picks other more k n =
    picks-same s other runs more k n (λ j low high. same j low (omega arith)) in
    let last : pick s runs k (suc n) ≡ pick other more k (suc n) = same (suc n) (omega arith) (omega arith) in
    ap₂ (λ xs x. xs ++ x ∷ []) front last
