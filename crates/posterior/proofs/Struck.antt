-- What a pass that clears suspects makes of the weights, where those above it stay as they are.
use Rattle.std.proofs.Common.{◌≡◌, ℕ, ◌+◌, ◌-◌, ◌*◌, ◌^◌, ◌<◌, ◌≤◌, true, false, nat_le, List, length, sym, ap, ◌∙◌, arith, mul-zero, mul-one, pow-add, le-leb, ⊎_elim, ◌⊎◌, inl, inr}
use Rattle.std.proofs.Math.Nat.{pow-zero}
use Rattle.std.proofs.lemmas.Bool.{cases_lt, lt-leb}
use Rattle.weight_exact.specs.Weights.{sum_to}
use Rattle.weight_exact.specs.Cumulative.{reweighed}
use Rattle.weight_exact.specs.declared.factors.Factors.{Factors}
use Rattle.weight_exact.proofs.Powering.{one-pow}
use Rattle.weight_exact.proofs.SumTo.{sum_to-same, sum_to-add, sum_to-zero, sum_to_more}
use Rattle.posterior.specs.Kept.{at}
use Rattle.posterior.specs.Counted.{AreCleared, counted_to, counted}
use Rattle.posterior.specs.KeptWeight.{kept_weight}

-- counts that are cleared up to a position and as before above it
pub record AreStruck (xs ys : List ℕ) (p : ℕ) : Type 0 where
  pub long : length ys ≡ length xs
  pub cleared : AreCleared p ys
  pub above : (q : ℕ) → p < q → at ys q ≡ at xs q

-- are fewer by what was counted up to there
counted_to-struck : (xs ys : List ℕ) (p m : ℕ) → AreStruck xs ys p → p ≤ m → counted_to ys m + counted_to xs p ≡ counted_to xs m
counted_to-struck xs ys p m s upto =
    let k : ℕ = m - p in
    let e : p + k ≡ m = omega arith in
    let none : counted_to ys p ≡ 0 = sum_to-zero (at ys) p (λ i low high. s.cleared i low high) in
    let rest : sum_to (λ i. at ys (p + i)) k ≡ sum_to (λ i. at xs (p + i)) k =
    sum_to-same (λ i. at ys (p + i)) (λ i. at xs (p + i)) k (λ i low high. s.above (p + i) (omega arith)) in
    let all : counted_to ys (p + k) + counted_to xs p ≡ counted_to xs (p + k) = omega (arith, sum_to-add (at ys) p k, sum_to-add (at xs) p k) in
    rw e at all

-- the fails that are dropped multiply each weight by 1: where there are none, and where their number is 1
pub dropped_one : (n : ℕ) (xs : List ℕ) (p : ℕ) → (n ≡ 1) ⊎ AreCleared p xs → n ^ counted_to xs p ≡ 1
dropped_one n xs p (inl one) = rw one (one-pow (counted_to xs p))
dropped_one n xs p (inr cleared) =
    let none : counted_to xs p ≡ 0 = sum_to-zero (at xs) p (λ i low high. cleared i low high) in
    rw none (pow-zero n)

-- a pass that clears suspects leaves the weights above it, where the fails that it drops multiplied them by 1
pub kept_weight-struck : (priors : List ℕ) (f : Factors) (floor : ℕ) (fails passes fails' passes' : List ℕ) (p i : ℕ)
    → floor < p → p ≤ length fails → AreStruck fails fails' p → f.fail_out ^ counted_to fails p ≡ 1
    → counted passes ≡ 0 → counted passes' ≡ 0
    → i - 1 ≤ length fails → i - 1 ≤ length passes → i - 1 ≤ length passes'
    → kept_weight priors f p fails' passes' i ≡ reweighed (kept_weight priors f floor fails passes) p 0 1 i
kept_weight-struck priors f floor fails passes fails' passes' p i order high s one none none' short shorter shorter' =
    ⊎_elim
    (λ (within : i < p + 1).
    let test : nat_le i p ≡ true = le-leb i p (omega arith) in
    rw test (sym (mul-zero (kept_weight priors f floor fails passes i))))
    (λ (over : p + 1 ≤ i).
    let test : nat_le i p ≡ false = lt-leb i p (omega arith) in
    let also : nat_le i floor ≡ false = lt-leb i floor (omega arith) in
    let here = counted_to-struck fails fails' p (i - 1) s (omega arith) in
    let whole : counted fails' + counted_to fails p ≡ counted fails =
    ap (λ n. counted_to fails' n + counted_to fails p) s.long ∙ counted_to-struck fails fails' p (length fails) s high in
    let inside : counted fails - counted_to fails (i - 1) ≡ counted fails' - counted_to fails' (i - 1) = omega arith in
    let outside : f.fail_out ^ counted_to fails (i - 1) ≡ f.fail_out ^ counted_to fails' (i - 1) =
    ap (λ n. f.fail_out ^ n) (sym here)
    ∙ (pow-add f.fail_out (counted_to fails' (i - 1)) (counted_to fails p)
    ∙ (ap (λ n. f.fail_out ^ counted_to fails' (i - 1) * n) one ∙ mul-one (f.fail_out ^ counted_to fails' (i - 1)))) in
    let part = sum_to_more (at passes) (i - 1) (length passes) shorter in
    let part' = sum_to_more (at passes') (i - 1) (length passes') shorter' in
    let a : counted passes - counted_to passes (i - 1) ≡ 0 = omega arith in
    let b : counted_to passes (i - 1) ≡ 0 = omega arith in
    let c : counted passes' - counted_to passes' (i - 1) ≡ 0 = omega arith in
    let d : counted_to passes' (i - 1) ≡ 0 = omega arith in
    rw (test, also, inside, outside, a, b, c, d) (sym (mul-one _)))
    (cases_lt i (p + 1))
