-- The hypothesis in whose span the middle of the total lies is the only one that can be at the bar.
use Rattle.std.proofs.Common.{◌≡◌, ◌≢◌, ℕ, ◌+◌, ◌-◌, ◌*◌, ◌/◌, ◌<◌, ◌≤◌, true, false, if◌then◌else◌, Some, None, sym, arith, ⊎_elim}
use Rattle.std.proofs.lemmas.Bool.{cases_eq, cases_lt, cases_Bool}
use Rattle.weight_exact.specs.Weights.{sum_to}
use Rattle.weight_exact.specs.Share.{last_to, is_at_bar}
use Rattle.weight_exact.proofs.SumTo.{sum_to_last, sum_to_more, member-le-sum_to}
use Rattle.weight_exact.proofs.Shares.{bar_once, last_to-only, last_to-none, at_bar-from_test}

-- a weight of at most half of the whole is not at the bar
half_below : (t u whole w : ℕ) → u < 2 * t → 1 ≤ whole → w + w ≤ whole → is_at_bar t u whole w ≡ true → ⊥
half_below t u whole w above some half at =
    let bar : t * whole ≤ w * u = at_bar-from_test t u whole w at in
    bar_once t u whole w w above some half bar bar

-- each other hypothesis weighs at most half
others_small : (w : ℕ → ℕ) (n h j : ℕ) → 1 ≤ h → h ≤ n → 1 ≤ j → j ≤ n → j ≢ h
    → sum_to w (h - 1) ≤ sum_to w n / 2 → sum_to w n / 2 < sum_to w h → w j + w j ≤ sum_to w n
others_small w n h j some_h high_h some_j high_j apart down up =
    ⊎_elim
    (λ (before : j < h). omega (arith, member-le-sum_to w (h - 1) j some_j (omega arith)))
    (λ (after : h ≤ j). omega (arith, sum_to_last w j some_j, sum_to_more w h (j - 1) (omega arith), sum_to_more w j n high_j))
    (cases_lt j h)

-- so the one in the middle is at the bar, or none is
pub middle-reaches : (w : ℕ → ℕ) (t u n h : ℕ) → u < 2 * t → 1 ≤ sum_to w n → 1 ≤ h → h ≤ n
    → sum_to w (h - 1) ≤ sum_to w n / 2 → sum_to w n / 2 < sum_to w h
    → (if is_at_bar t u (sum_to w n) (w h) then Some h else None) ≡ last_to (λ i. is_at_bar t u (sum_to w n) (w i)) n
middle-reaches w t u n h above some some_h high_h down up =
    let whole : ℕ = sum_to w n in
    ⊎_elim
    (λ (reaches : is_at_bar t u whole (w h) ≡ true).
    let only : (j : ℕ) → 1 ≤ j → j ≤ n → is_at_bar t u whole (w j) ≡ true → j ≡ h = λ j low high at.
    ⊎_elim
    (λ (same : j ≡ h). same)
    (λ apart. absurd (half_below t u whole (w j) above some (others_small w n h j some_h high_h low high apart down up) at))
    (cases_eq j h) in
    rw reaches (sym (last_to-only (λ i. is_at_bar t u whole (w i)) n h some_h high_h reaches only)))
    (λ (fails : is_at_bar t u whole (w h) ≡ false).
    let none : (i : ℕ) → 1 ≤ i → i ≤ n → is_at_bar t u whole (w i) ≡ false = λ i low high.
    ⊎_elim
    (λ (yes : is_at_bar t u whole (w i) ≡ true).
    ⊎_elim
    (λ (same : i ≡ h). let also : is_at_bar t u whole (w h) ≡ true = rw (← same) yes in absurd (cc))
    (λ apart. absurd (half_below t u whole (w i) above some (others_small w n h i some_h high_h low high apart down up) yes))
    (cases_eq i h))
    (λ (no_bar : is_at_bar t u whole (w i) ≡ false). no_bar)
    (cases_Bool (is_at_bar t u whole (w i))) in
    rw fails (sym (last_to-none (λ i. is_at_bar t u whole (w i)) n none)))
    (cases_Bool (is_at_bar t u whole (w h)))
