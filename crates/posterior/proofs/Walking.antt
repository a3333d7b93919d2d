-- One hypothesis of the walk, and its end.
use Rattle.std.proofs.Common.{◌≡◌, ℕ, zero, suc, ◌+◌, ◌-◌, ◌*◌, ◌<◌, ◌≤◌, true, false, nat_le, if◌then◌else◌, List, get_or, Some, None, sym, arith, zero-mul, ⊎_elim}
use Rattle.std.proofs.Math.Nat.{mul-le-mul, one-le-mul}
use Rattle.std.proofs.lemmas.Bool.{cases_eq, cases_Bool}
use Rattle.weight_exact.specs.Weights.{sum_to}
use Rattle.weight_exact.specs.Share.{last_to, is_at_bar}
use Rattle.weight_exact.specs.Powers.{product}
use Rattle.weight_exact.specs.declared.factors.Factors.{Factors}
use Rattle.weight_exact.specs.declared.powers.Counts.{Counts}
use Rattle.weight_exact.proofs.SumTo.{members-le-sum_to}
use Rattle.weight_exact.proofs.Shares.{bar_once, last_to-only, last_to-none, at_bar-from_test, is_at_bar-true}
use Rattle.posterior.specs.Counted.{counted_to, counted}
use Rattle.posterior.specs.KeptWeight.{kept_weight}
use Rattle.posterior.proofs.Counting.{index-is}

-- the weight that the walk makes at an index is the kept weight of its hypothesis
pub kept_weight-here : (priors : List ℕ) (f : Factors) (floor : ℕ) (fails passes : List ℕ) (index : ℕ) (c : Counts)
    → c.fail_out ≡ counted_to fails index → c.fail_in + c.fail_out ≡ counted fails
    → c.pass_out ≡ counted_to passes index → c.pass_in + c.pass_out ≡ counted passes
    → kept_weight priors f floor fails passes (index + 1) ≡ (if nat_le (index + 1) floor then 0 else product f (get_or priors index 0) c)
kept_weight-here priors f floor fails passes index c fo fi po pi =
    let e = index-is index in
    let a : counted fails - counted_to fails index ≡ c.fail_in = omega arith in
    let b : counted_to fails index ≡ c.fail_out = omega arith in
    let d : counted passes - counted_to passes index ≡ c.pass_in = omega arith in
    let h : counted_to passes index ≡ c.pass_out = omega arith in
    rw (e, a, b, d, h)

-- a product is positive only where its first factor is
positive : (m u : ℕ) → 1 ≤ m * u → 1 ≤ m
positive zero u h = absurd (omega (arith, zero-mul u))
positive (suc m) u h = omega arith

-- the heaviest hypothesis reaches the bar, or none does
pub leader-reaches : (w : ℕ → ℕ) (t u whole n h m : ℕ) → u < 2 * t → 1 ≤ t → 1 ≤ whole → whole ≡ sum_to w n
    → ((i : ℕ) → 1 ≤ i → i ≤ n → w i ≤ m) → (1 ≤ m → (1 ≤ h) × (h ≤ n) × (w h ≡ m))
    → (if is_at_bar t u whole m then Some h else None) ≡ last_to (λ i. is_at_bar t u whole (w i)) n
leader-reaches w t u whole n h m half some_t some is most leads =
    ⊎_elim
    (λ (reaches : is_at_bar t u whole m ≡ true).
    let bar : t * whole ≤ m * u = at_bar-from_test t u whole m reaches in
    let above : 1 ≤ t * whole = one-le-mul some_t some in
    let heavy : 1 ≤ m = positive m u (omega arith) in
    let l = leads heavy in
    let here : is_at_bar t u whole (w h) ≡ true = is_at_bar-true t u whole (w h) (rw l.2 bar) in
    let only : (j : ℕ) → 1 ≤ j → j ≤ n → is_at_bar t u whole (w j) ≡ true → j ≡ h = λ j low high other.
    ⊎_elim
    (λ (same : j ≡ h). same)
    (λ apart.
    let both : w j + w h ≤ whole = rw is (members-le-sum_to w n j h low high l.0 l.1 apart) in
    absurd (bar_once t u whole (w j) (w h) half some both (at_bar-from_test t u whole (w j) other) (at_bar-from_test t u whole (w h) here)))
    (cases_eq j h) in
    rw reaches (sym (last_to-only (λ i. is_at_bar t u whole (w i)) n h l.0 l.1 here only)))
    (λ (fails : is_at_bar t u whole m ≡ false).
    let none : (i : ℕ) → 1 ≤ i → i ≤ n → is_at_bar t u whole (w i) ≡ false = λ i low high.
    ⊎_elim
    (λ (yes : is_at_bar t u whole (w i) ≡ true).
    let bar : t * whole ≤ w i * u = at_bar-from_test t u whole (w i) yes in
    let less : w i * u ≤ m * u = mul-le-mul (most i low high) (let r : u ≤ u = omega arith in r) in
    let also : is_at_bar t u whole m ≡ true = is_at_bar-true t u whole m (omega arith) in
    absurd (cc))
    (λ (no_bar : is_at_bar t u whole (w i) ≡ false). no_bar)
    (cases_Bool (is_at_bar t u whole (w i))) in
    rw fails (sym (last_to-none (λ i. is_at_bar t u whole (w i)) n none)))
    (cases_Bool (is_at_bar t u whole m))
