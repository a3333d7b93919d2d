-- Counts by position under a write.
use Rattle.std.proofs.Common.{◌≡◌, ◌≢◌, ℕ, zero, suc, ◌+◌, ◌-◌, ◌<◌, ◌≤◌, List, length, set, replicate, get_or, sym, ap, ◌∙◌, arith, add-one, get_or-set_other, get_or-set_same, ⊎_elim}
use Rattle.std.proofs.lemmas.List.{length-set, length-replicate, get_or-replicate, get_or_past}
use Rattle.std.proofs.lemmas.Bool.{cases_lt}
use Rattle.weight_exact.proofs.SumTo.{sum_to-zero, sum_to-same, sum_to_more, member-le-sum_to}
use Rattle.posterior.specs.Kept.{at}
use Rattle.posterior.specs.Counted.{AreCleared, counted_to, counted}

-- a write at index i leaves the other places
pub at-set_other : (xs : List ℕ) (i v p : ℕ) → 1 ≤ i → 1 ≤ p → p ≢ i → at (set xs (i - 1) v) p ≡ at xs p
at-set_other xs i v p low here apart =
    let other : p - 1 ≢ i - 1 = λ e. apart (omega arith) in
    get_or-set_other xs (i - 1) (p - 1) v 0 other

pub at-set_same : (xs : List ℕ) (i v : ℕ) → 1 ≤ i → i ≤ length xs → at (set xs (i - 1) v) i ≡ v
at-set_same xs i v low high = get_or-set_same xs (i - 1) v 0 (omega arith)

-- a write at index i leaves the counts below it
pub counted_to-set_below : (xs : List ℕ) (i v m : ℕ) → 1 ≤ i → m < i → counted_to (set xs (i - 1) v) m ≡ counted_to xs m
counted_to-set_below xs i v m low below =
    sum_to-same (at (set xs (i - 1) v)) (at xs) m (λ p first last. at-set_other xs i v p low first (λ e. (let h : p ≡ i = e in omega arith)))

-- and changes those from there on by what it changes
pub counted_to-set : (xs : List ℕ) (i v m : ℕ) → 1 ≤ i → i ≤ length xs → i ≤ m → counted_to (set xs (i - 1) v) m + at xs i ≡ counted_to xs m + v
counted_to-set xs i v zero low high upto = absurd (omega arith)
counted_to-set xs i v (suc m) low high upto =
    ⊎_elim
    (λ (before : m < i).
    let e : i ≡ suc m = omega arith in
    let same = counted_to-set_below xs i v m low before in
    let here : at (set xs (i - 1) v) (suc m) ≡ v = (ap (at (set xs (i - 1) v)) (sym e)) ∙ at-set_same xs i v low high in
    let was : at xs i ≡ at xs (suc m) = ap (at xs) e in
    omega arith)
    (λ (after : i ≤ m).
    let apart : suc m ≢ i = λ e. (let h : suc m ≡ i = e in omega arith) in
    let rest = counted_to-set xs i v m low high after in
    let here : at (set xs (i - 1) v) (suc m) ≡ at xs (suc m) = at-set_other xs i v (suc m) low (omega arith) apart in
    omega arith)
    (cases_lt m i)

-- a write at index i changes what is counted
pub counted-set : (xs : List ℕ) (i v : ℕ) → 1 ≤ i → i ≤ length xs → counted (set xs (i - 1) v) + at xs i ≡ counted xs + v
counted-set xs i v low high =
    let long : counted (set xs (i - 1) v) ≡ counted_to (set xs (i - 1) v) (length xs) = ap (counted_to (set xs (i - 1) v)) (length-set xs (i - 1) v) in
    omega (arith, long, counted_to-set xs i v (length xs) low high high)

-- one position's count is at most all
pub at-le-counted : (xs : List ℕ) (i : ℕ) → 1 ≤ i → i ≤ length xs → at xs i ≤ counted xs
at-le-counted xs i low high = member-le-sum_to (at xs) (length xs) i low high

-- zeros count nothing
pub at-zeros : (n p : ℕ) → at (replicate n 0) p ≡ 0
at-zeros n p =
    ⊎_elim
    (λ (within : p - 1 < n). get_or-replicate n (p - 1) 0 0 within)
    (λ (past : n ≤ p - 1). get_or_past (replicate n 0) (p - 1) 0 (omega (arith, length-replicate n (let z : ℕ = 0 in z))))
    (cases_lt (p - 1) n)

pub counted-zeros : (n : ℕ) → counted (replicate n 0) ≡ 0
counted-zeros n = sum_to-zero (at (replicate n 0)) (length (replicate n 0)) (λ p low high. at-zeros n p)

-- nothing counted at any position is nothing counted
pub counted-cleared : (xs : List ℕ) → AreCleared (length xs) xs → counted xs ≡ 0
counted-cleared xs cleared = sum_to-zero (at xs) (length xs) cleared

-- the same at an index counted from 0, as code writes it
pub index-is : (index : ℕ) → index + 1 - 1 ≡ index
index-is index = omega arith

pub counted-write : (xs : List ℕ) (index v : ℕ) → index < length xs → counted (set xs index v) + get_or xs index 0 ≡ counted xs + v
counted-write xs index v short =
    let e = index-is index in
    let h : counted (set xs (index + 1 - 1) v) + get_or xs (index + 1 - 1) 0 ≡ counted xs + v = counted-set xs (index + 1) v (omega arith) (omega arith) in
    rw e at h

pub at-write_other : (xs : List ℕ) (index v p : ℕ) → 1 ≤ p → p ≢ index + 1 → at (set xs index v) p ≡ at xs p
at-write_other xs index v p low apart =
    let e = index-is index in
    let h : at (set xs (index + 1 - 1) v) p ≡ at xs p = at-set_other xs (index + 1) v p (omega arith) low apart in
    rw e at h

pub at-write_same : (xs : List ℕ) (index v p : ℕ) → index < length xs → p ≡ index + 1 → at (set xs index v) p ≡ v
at-write_same xs index v p short here =
    let e : p - 1 ≡ index = omega arith in
    rw e (get_or-set_same xs index v 0 short)

pub get_or-le-counted : (xs : List ℕ) (index : ℕ) → index < length xs → get_or xs index 0 ≤ counted xs
get_or-le-counted xs index short =
    let e = index-is index in
    let h : get_or xs (index + 1 - 1) 0 ≤ counted xs = at-le-counted xs (index + 1) (omega arith) (omega arith) in
    rw e at h

-- the count up to the next index
pub counted_to-next : (xs : List ℕ) (index : ℕ) → counted_to xs (index + 1) ≡ counted_to xs index + get_or xs index 0
counted_to-next xs index =
    let e : suc index - 1 ≡ index = omega arith in
    let here : at xs (suc index) ≡ get_or xs index 0 = rw e in
    rw (add-one index) (omega (arith, here))

-- what is counted at an index is at most what is counted from there on
pub get_or-le-rest : (xs : List ℕ) (index rest : ℕ) → rest + counted_to xs index ≡ counted xs → get_or xs index 0 ≤ rest
get_or-le-rest xs index rest whole =
    ⊎_elim
    (λ (within : index < length xs). omega (arith, counted_to-next xs index, sum_to_more (at xs) (index + 1) (length xs) (omega arith)))
    (λ (past : length xs ≤ index). omega (arith, get_or_past xs index 0 past))
    (cases_lt index (length xs))
