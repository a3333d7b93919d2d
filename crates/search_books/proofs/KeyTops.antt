-- The greatest place of a bucket below a bound.
use Rattle.std.proofs.Common.{◌≡◌, ◌≢◌, ◌<◌, ◌≤◌, ◌+◌, ℕ, zero, suc, cond, nat_eq, true, false, Bool, refl, ap, subst, sym, ◌∙◌, ⊎_elim, arith}
use Rattle.std.proofs.lemmas.Bool.{cases_eq}
use Rattle.std.proofs.lemmas.Bool.Decides.{nat_tests}
use Rattle.search_books.specs.KeyChains.{top}

pub top-le : (h : ℕ → ℕ) (b n : ℕ) → top h b n ≤ n
top-le h b zero = omega arith
top-le h b (suc n) = grind (arith, nat_tests, top-le h b n)

-- an item of the bucket lies below
pub top-above : (h : ℕ → ℕ) (b k n : ℕ) → k < n → h k ≡ b → k < top h b n
top-above h b k zero below same = omega (arith, below)
top-above h b k (suc n) below same =
    ⊎_elim
    (λ (e : k ≡ n). let here : h n ≡ b = subst (λ (i : ℕ). h i ≡ b) e same in grind (arith, nat_tests))
    (λ (ne : k ≢ n). let rest : k < top h b n = top-above h b k n (omega arith) same in grind (arith, nat_tests))
    (cases_eq k n)

-- what it is one more than lies in the bucket
pub top-hit : (h : ℕ → ℕ) (b n m : ℕ) → top h b n ≡ m + 1 → (m < n) × (h m ≡ b)
top-hit h b zero m is = absurd (omega (arith, is))
top-hit h b (suc n) m is =
    ⊎_elim
    (λ (e : h n ≡ b).
    let test : nat_eq (h n) b ≡ true = grind (arith, nat_tests) in
    let at : suc n ≡ m + 1 = sym (ap (λ (p : Bool). cond p (suc n) (top h b n)) test) ∙ is in
    let same : n ≡ m = omega (arith, at) in
    (omega arith, subst (λ (i : ℕ). h i ≡ b) same e))
    (λ (ne : h n ≢ b).
    let test : nat_eq (h n) b ≡ false = grind (arith, nat_tests) in
    let at : top h b n ≡ m + 1 = sym (ap (λ (p : Bool). cond p (suc n) (top h b n)) test) ∙ is in
    let rest = top-hit h b n m at in
    (omega (arith, rest.0), rest.1))
    (cases_eq (h n) b)

-- buckets that are the same below give the same
pub top-same : (h k : ℕ → ℕ) (b n : ℕ) → ((i : ℕ) → i < n → k i ≡ h i) → top k b n ≡ top h b n
top-same h k b zero same = refl
top-same h k b (suc n) same =
    rw (same n (omega arith), top-same h k b n (λ i below. same i (omega (arith, below)))) refl

-- the item at an index with other buckets on both sides is passed over
pub top-past : (h : ℕ → ℕ) (b n : ℕ) → h n ≢ b → top h b (suc n) ≡ top h b n
top-past h b n ne = let test : nat_eq (h n) b ≡ false = grind (arith, nat_tests) in rw test refl

pub top-here : (h : ℕ → ℕ) (b n : ℕ) → h n ≡ b → top h b (suc n) ≡ suc n
top-here h b n e = let test : nat_eq (h n) b ≡ true = grind (arith, nat_tests) in rw test refl

-- an index where the greatest lies up to it may be left out above
pub top-down : (h : ℕ → ℕ) (b n at : ℕ) → at < n → top h b n ≤ at + 1 → top h b n ≡ top h b (suc at)
top-down h b zero at below low = absurd (omega (arith, below))
top-down h b (suc n) at below low =
    ⊎_elim
    (λ (e : at ≡ n). ap (λ (i : ℕ). top h b (suc i)) (sym e))
    (λ (ne : at ≢ n).
    ⊎_elim
    (λ (e : h n ≡ b). let here = top-here h b n e in absurd (omega (arith, here, low, below)))
    (λ (other : h n ≢ b). let past = top-past h b n other in past
    ∙ top-down h b n at (omega arith) (omega (arith, past, low)))
    (cases_eq (h n) b))
    (cases_eq at n)
