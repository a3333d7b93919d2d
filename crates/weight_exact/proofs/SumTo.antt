-- The sum of a function over 1 to n.
use Rattle.std.proofs.Common.{◌≡◌, ◌≢◌, ℕ, zero, suc, ◌+◌, ◌-◌, ◌*◌, ◌<◌, ◌≤◌, List, [], ◌∷◌, length, slice_index, sum, refl, sym, ap, ◌∙◌, arith, mul-zero, mul-add, zero-mul, add-mul, add-suc, add-zero, ⊎_elim}
use Rattle.std.proofs.lemmas.List.Sums.{sum_by-cons}
use Rattle.std.proofs.lemmas.Bool.{cases_lt}
use Rattle.weight_exact.specs.Weights.{sum_to}

-- functions that are equal from 1 to n have one sum
pub sum_to-same : (w v : ℕ → ℕ) (n : ℕ) →
    ((i : ℕ) → 1 ≤ i → i ≤ n → w i ≡ v i) →
    sum_to w n ≡ sum_to v n
sum_to-same w v zero same = refl
sum_to-same w v (suc n) same =
    let below : sum_to w n ≡ sum_to v n = sum_to-same w v n (λ i low high. same i low (omega arith)) in
    let here : w (suc n) ≡ v (suc n) = same (suc n) (omega arith) (omega arith) in
    omega arith

-- a common factor comes out of a sum
pub sum_to-mul_left : (k : ℕ) (w : ℕ → ℕ) (n : ℕ) → sum_to (λ i. k * w i) n ≡ k * sum_to w n
sum_to-mul_left k w zero = sym (mul-zero k)
sum_to-mul_left k w (suc n) =
    ap (λ m. m + k * w (suc n)) (sum_to-mul_left k w n) ∙ sym (mul-add k (sum_to w n) (w (suc n)))

pub sum_to-mul_right : (w : ℕ → ℕ) (k n : ℕ) → sum_to (λ i. w i * k) n ≡ sum_to w n * k
sum_to-mul_right w k zero = sym (zero-mul k)
sum_to-mul_right w k (suc n) =
    ap (λ m. m + w (suc n) * k) (sum_to-mul_right w k n) ∙ sym (add-mul (sum_to w n) (w (suc n)) k)

-- greater members have a greater sum
pub sum_to-le : (w v : ℕ → ℕ) (n : ℕ) → ((i : ℕ) → 1 ≤ i → i ≤ n → w i ≤ v i) → sum_to w n ≤ sum_to v n
sum_to-le w v zero below = omega arith
sum_to-le w v (suc n) below =
    let front : sum_to w n ≤ sum_to v n = sum_to-le w v n (λ i low high. below i low (omega arith)) in
    let here : w (suc n) ≤ v (suc n) = below (suc n) (omega arith) (omega arith) in
    omega arith

-- the sum over two stretches, one after the other
pub sum_to-add : (w : ℕ → ℕ) (m k : ℕ) → sum_to w (m + k) ≡ sum_to w m + sum_to (λ i. w (m + i)) k
sum_to-add w m zero = rw (add-zero m) (omega arith)
sum_to-add w m (suc k) =
    let front : sum_to w (m + k) ≡ sum_to w m + sum_to (λ i. w (m + i)) k = sum_to-add w m k in
    rw add-suc (omega arith)

-- the last member apart
pub sum_to_last : (w : ℕ → ℕ) (n : ℕ) → 1 ≤ n → sum_to w n ≡ sum_to w (n - 1) + w n
sum_to_last w zero low = absurd (omega arith)
sum_to_last w (suc n) low = let e : suc n - 1 ≡ n = omega arith in rw e

-- a sum over more members is no smaller
pub sum_to_more : (w : ℕ → ℕ) (i j : ℕ) → i ≤ j → sum_to w i ≤ sum_to w j
sum_to_more w i j h =
    let e : i + (j - i) ≡ j = omega arith in
    rw (← e) (omega (arith, sum_to-add w i (j - i)))

-- a member is at most the sum
pub member-le-sum_to : (w : ℕ → ℕ) (n i : ℕ) → 1 ≤ i → i ≤ n → w i ≤ sum_to w n
member-le-sum_to w n zero low high = absurd (omega arith)
member-le-sum_to w n (suc i) low high = omega (arith, sum_to_more w (suc i) n high)

-- of two members, the later one and all up to the earlier one are at most the sum
members_in_order-le-sum_to : (w : ℕ → ℕ) (n i j : ℕ) → 1 ≤ i → i < j → j ≤ n → w i + w j ≤ sum_to w n
members_in_order-le-sum_to w n i zero low less high = absurd (omega arith)
members_in_order-le-sum_to w n i (suc j) low less high =
    omega (arith, member-le-sum_to w j i low (omega arith), sum_to_more w (suc j) n high)

-- two different members together are at most the sum
pub members-le-sum_to : (w : ℕ → ℕ) (n i j : ℕ) → 1 ≤ i → i ≤ n → 1 ≤ j → j ≤ n → i ≢ j → w i + w j ≤ sum_to w n
members-le-sum_to w n i j low_i high_i low_j high_j apart =
    ⊎_elim
    (λ less. members_in_order-le-sum_to w n i j low_i less high_j)
    (λ not_less. let more : j < i = omega arith in omega (arith, members_in_order-le-sum_to w n j i low_j more high_i))
    (cases_lt i j)

-- the sum of members that are 0
pub sum_to-zero : (w : ℕ → ℕ) (n : ℕ) → ((i : ℕ) → 1 ≤ i → i ≤ n → w i ≡ 0) → sum_to w n ≡ 0
sum_to-zero w zero none = refl
sum_to-zero w (suc n) none =
    let front : sum_to w n ≡ 0 = sum_to-zero w n (λ i low high. none i low (omega arith)) in
    let here : w (suc n) ≡ 0 = none (suc n) (omega arith) (omega arith) in
    omega arith

-- the number at index i + 1 of a list is the number at index i of its rest
slice_index-cons : (x : ℕ) (xs : List ℕ) (i : ℕ) → 1 ≤ i → slice_index (x ∷ xs) (1 + i - 1) ≡ slice_index xs (i - 1)
slice_index-cons x xs zero low = absurd (omega arith)
slice_index-cons x xs (suc i) low =
    let whole : 1 + suc i - 1 ≡ suc i = omega arith in
    let rest : suc i - 1 ≡ i = omega arith in
    rw (whole, rest)

-- the sum of the list's numbers, counted from 1, is the list's sum
pub sum_to-slice_index : (xs : List ℕ) → sum_to (λ i. slice_index xs (i - 1)) (length xs) ≡ sum xs
sum_to-slice_index [] = refl
sum_to-slice_index (x ∷ xs) =
    let w : ℕ → ℕ = λ i. slice_index (x ∷ xs) (i - 1) in
    let length_is : suc (length xs) ≡ 1 + length xs = omega arith in
    let v : ℕ → ℕ = λ i. slice_index xs (i - 1) in
    let parts : sum_to w (1 + length xs) ≡ (0 + x) + sum_to (λ i. w (1 + i)) (length xs) = sum_to-add w 1 (length xs) in
    let rest : sum_to (λ i. w (1 + i)) (length xs) ≡ sum_to v (length xs) =
    sum_to-same (λ i. w (1 + i)) v (length xs) (λ i low high. slice_index-cons x xs i low) in
    let whole : sum (x ∷ xs) ≡ x + sum xs = sum_by-cons (λ y. y) x xs in
    ap (sum_to w) length_is ∙ omega (arith, sum_to-slice_index xs)
