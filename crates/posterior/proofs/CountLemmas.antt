-- Counts by position, summed: what a hypothesis makes of a list of runs.
use Rattle.std.proofs.Common.{◌≡◌, ℕ, zero, suc, ◌+◌, ◌-◌, ◌≤◌, Bool, true, false, cond, not, ◌&&◌, ◌==◌, nat_le, List, [], ◌∷◌, length, count_by, All, refl, ap, ◌∙◌, arith, le-leb}
use Rattle.std.proofs.lemmas.Bool.Decides.{nat_tests}
use Rattle.std.proofs.lemmas.List.Sums.{sum_by-cons}
use Rattle.std.proofs.lemmas.List.Elements.{All-head, All-tail, All-cons, All-nil}
use Rattle.weight_exact.specs.Weights.{sum_to}
use Rattle.weight_exact.specs.declared.run.Run.{Run}
use Rattle.weight_exact.proofs.SumTo.{sum_to-same, sum_to-zero}

-- a single mark at index k, summed up to m
sum_to-mark : (k m : ℕ) → 1 ≤ k → sum_to (λ p. cond (k == p) 1 0) m ≡ cond (nat_le k m) 1 0
sum_to-mark k zero low = grind (arith, nat_tests)
sum_to-mark k (suc m) low = let rest = sum_to-mark k m low in grind (arith, nat_tests, rest)

-- the same where the mark is made under a test alone
sum_to-marked : (b : Bool) (k m : ℕ) → 1 ≤ k → sum_to (λ p. cond (b && k == p) 1 0) m ≡ cond (b && nat_le k m) 1 0
sum_to-marked true k m low = sum_to-mark k m low
sum_to-marked false k m low = sum_to-zero (λ _. 0) m (λ i low high. refl)

-- the sum of two functions
sum_to-plus : (w v : ℕ → ℕ) (n : ℕ) → sum_to (λ i. w i + v i) n ≡ sum_to w n + sum_to v n
sum_to-plus w v zero = refl
sum_to-plus w v (suc n) = omega (arith, sum_to-plus w v n)

-- a count of one run more at the front
pub count_by-cons : (test : Run → Bool) (r : Run) (runs : List Run) → count_by test (r ∷ runs) ≡ cond (test r) 1 0 + count_by test runs
count_by-cons test r runs = sum_by-cons (λ (x : Run). cond (test x) 1 0) r runs

-- the runs that pass a test, counted at each position up to m
pub sum_to-count_at : (test : Run → Bool) (runs : List Run) (m : ℕ) → All (λ (r : Run). 1 ≤ r.position) runs
    → sum_to (λ p. count_by (λ (r : Run). test r && r.position == p) runs) m ≡ count_by (λ (r : Run). test r && nat_le r.position m) runs
sum_to-count_at test [] m low = sum_to-zero (λ _. 0) m (λ i low high. refl)
sum_to-count_at test (r ∷ rs) m low =
    let P : Run → Type 0 = λ r. 1 ≤ r.position in
    let here : ℕ → ℕ = λ p. cond (test r && r.position == p) 1 0 in
    let rest : ℕ → ℕ = λ p. count_by (λ (r : Run). test r && r.position == p) rs in
    let split : sum_to (λ p. count_by (λ (r : Run). test r && r.position == p) (r ∷ rs)) m ≡ sum_to (λ p. here p + rest p) m =
    sum_to-same (λ p. count_by (λ (r : Run). test r && r.position == p) (r ∷ rs)) (λ p. here p + rest p) m (λ p low high. count_by-cons (λ (r : Run). test r && r.position == p) r rs) in
    let first : sum_to here m ≡ cond (test r && nat_le r.position m) 1 0 = sum_to-marked (test r) r.position m (All-head P r rs low) in
    let others : sum_to rest m ≡ count_by (λ (r : Run). test r && nat_le r.position m) rs = sum_to-count_at test rs m (All-tail P r rs low) in
    let joined : count_by (λ (r : Run). test r && nat_le r.position m) (r ∷ rs) ≡ cond (test r && nat_le r.position m) 1 0 + count_by (λ (r : Run). test r && nat_le r.position m) rs =
    count_by-cons (λ (r : Run). test r && nat_le r.position m) r rs in
    let plus = sum_to-plus here rest m in
    omega arith

-- two tests that agree count the same
pub count_by-same : (test other : Run → Bool) (runs : List Run) → ((r : Run) → test r ≡ other r) → count_by test runs ≡ count_by other runs
count_by-same test other [] same = refl
count_by-same test other (r ∷ rs) same =
    let mark : Bool → ℕ = λ b. cond b 1 0 in
    let here : mark (test r) ≡ mark (other r) = ap mark (same r) in
    omega (arith, here, count_by-same test other rs same, count_by-cons test r rs, count_by-cons other r rs)

-- whether a position is below i, by either test
below-test : (k i : ℕ) → 1 ≤ i → nat_le k (i - 1) ≡ not (nat_le i k)
below-test k i low = grind (arith, nat_tests)

-- each run is at a position from 1 to n
abbrev pub Within : ℕ → Run → Type 0
Within n r = (1 ≤ r.position) × (r.position ≤ n)

within_low : (n : ℕ) (runs : List Run) → All (Within n) runs → All (λ (r : Run). 1 ≤ r.position) runs
within_low n [] all = All-nil (λ (r : Run). 1 ≤ r.position)
within_low n (r ∷ rs) all =
    All-cons (λ (r : Run). 1 ≤ r.position) r rs (All-head (Within n) r rs all).0 (within_low n rs (All-tail (Within n) r rs all))

-- the runs that pass a test and are below position i
pub counted_below : (test : Run → Bool) (n : ℕ) (runs : List Run) (i : ℕ) → All (Within n) runs → 1 ≤ i
    → sum_to (λ p. count_by (λ (r : Run). test r && r.position == p) runs) (i - 1) ≡ count_by (λ (r : Run). test r && not (nat_le i r.position)) runs
counted_below test n runs i within low =
    sum_to-count_at test runs (i - 1) (within_low n runs within)
    ∙ count_by-same (λ (r : Run). test r && nat_le r.position (i - 1)) (λ (r : Run). test r && not (nat_le i r.position)) runs
    (λ r. ap (λ b. test r && b) (below-test r.position i low))

-- a test and a second one that holds of each run
count_by-and_true : (test more : Run → Bool) (runs : List Run) → All (λ (r : Run). more r ≡ true) runs → count_by (λ (r : Run). test r && more r) runs ≡ count_by test runs
count_by-and_true test more [] holds = refl
count_by-and_true test more (r ∷ rs) holds =
    let P : Run → Type 0 = λ r. more r ≡ true in
    let mark : Bool → ℕ = λ b. cond b 1 0 in
    let here : mark (test r && more r) ≡ mark (test r) = rw (All-head P r rs holds) (elim (test r) as (λ t. mark (t && true) ≡ mark t) [ true ↦ refl | false ↦ refl ]) in
    omega (arith, here, count_by-and_true test more rs (All-tail P r rs holds), count_by-cons (λ (r : Run). test r && more r) r rs, count_by-cons test r rs)

within_high : (n : ℕ) (runs : List Run) → All (Within n) runs → All (λ (r : Run). nat_le r.position n ≡ true) runs
within_high n [] all = All-nil (λ (r : Run). nat_le r.position n ≡ true)
within_high n (r ∷ rs) all =
    All-cons (λ (r : Run). nat_le r.position n ≡ true) r rs (le-leb r.position n (All-head (Within n) r rs all).1) (within_high n rs (All-tail (Within n) r rs all))

-- all runs that pass a test, position by position
pub counted_all : (test : Run → Bool) (n : ℕ) (runs : List Run) → All (Within n) runs
    → sum_to (λ p. count_by (λ (r : Run). test r && r.position == p) runs) n ≡ count_by test runs
counted_all test n runs within =
    sum_to-count_at test runs n (within_low n runs within)
    ∙ count_by-and_true test (λ (r : Run). nat_le r.position n) runs (within_high n runs within)

-- those with suspect i in the tree, and those with it out
pub count_by-split : (test more : Run → Bool) (runs : List Run)
    → count_by (λ (r : Run). test r && more r) runs + count_by (λ (r : Run). test r && not (more r)) runs ≡ count_by test runs
count_by-split test more [] = refl
count_by-split test more (r ∷ rs) =
    let mark : Bool → ℕ = λ b. cond b 1 0 in
    let here : mark (test r && more r) + mark (test r && not (more r)) ≡ mark (test r) =
    elim (test r) as (λ t. mark (t && more r) + mark (t && not (more r)) ≡ mark t) [
      | true ↦ (elim (more r) as (λ m. mark m + mark (not m) ≡ 1) [ true ↦ refl | false ↦ refl ])
      | false ↦ refl
    ] in
    omega (arith, here, count_by-split test more rs, count_by-cons (λ (r : Run). test r && more r) r rs, count_by-cons (λ (r : Run). test r && not (more r)) r rs, count_by-cons test r rs)

-- the runs that pass a test and those that don't are all
pub count_by-either : (test : Run → Bool) (runs : List Run) → count_by test runs + count_by (λ (r : Run). not (test r)) runs ≡ length runs
count_by-either test [] = refl
count_by-either test (r ∷ rs) =
    let mark : Bool → ℕ = λ b. cond b 1 0 in
    let here : mark (test r) + mark (not (test r)) ≡ 1 = elim (test r) as (λ t. mark t + mark (not t) ≡ 1) [ true ↦ refl | false ↦ refl ] in
    omega (arith, here, count_by-either test rs, count_by-cons test r rs, count_by-cons (λ (r : Run). not (test r)) r rs)
