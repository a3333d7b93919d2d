-- The block round the middle of the weight holds all hypotheses that are at the bar together.
use Rattle.std.proofs.Common.{◌≡◌, ℕ, ◌+◌, ◌-◌, ◌*◌, ◌<◌, ◌≤◌, ◌⊎◌, inl, inr, Bool, true, false, nat_le, None, List, [], sym, ap, ◌∙◌, arith, ⊎_elim, subst, le-leb, leb-true, mul-le-mul_right, mul-lt-mul_of_pos_right, mul_comm, mul_assoc}
use Rattle.std.proofs.lemmas.Bool.{cases_Bool, cases_lt, false≢true}
use Rattle.weight_exact.specs.Load.{floor}
use Rattle.weight_exact.specs.Share.{reached}
use Rattle.weight_exact.specs.Weights.{Setup, cumulative, hypotheses, suspects, sum_to, total, weight}
use Rattle.weight_exact.specs.declared.run.Run.{Run}
use Rattle.weight_exact.proofs.Floors.{weight-floor}
use Rattle.weight_exact.proofs.Shares.{at_bar-from_test, is_at_bar-true, unreached-from_none}
use Rattle.weight_exact.proofs.SumTo.{sum_to_last, sum_to_more, sum_to-zero}
use Rattle.threshold_pick.specs.Open.{is_open, is_skipped}
use Rattle.threshold_pick.specs.Nearest.{AreShut}
use Rattle.threshold_pick.specs.HiddenBlocks.{IsHidden, first_at, is_hidden, last_below, middle}
use Rattle.threshold_pick.proofs.Firsts.{IsFirst, IsFirst-first_at, IsFirst-first_from, IsLast, IsLast-last_below, first-le, free-from_open, skipped-from_shut}

-- ---- the middle

-- where the total is positive there is a hypothesis
some_hypothesis : (s : Setup) (runs : List Run) → 1 ≤ total s runs → 1 ≤ hypotheses s
some_hypothesis s runs some =
    ⊎_elim
    (λ (none : hypotheses s < 1).
    let e : hypotheses s ≡ 0 = omega arith in
    let zero_is : total s runs ≡ 0 = ap (λ (n : ℕ). sum_to (weight s runs) n) e in
    absurd (omega (arith, zero_is, some)))
    (λ (one : 1 ≤ hypotheses s). one)
    (cases_lt (hypotheses s) 1)

-- whether a hypothesis has half of the weight up to it
abbrev has_half : Setup → List Run → ℕ → Bool
has_half s runs i = nat_le (total s runs) (2 * cumulative s runs i)

IsFirst-middle : (s : Setup) (runs : List Run) → IsFirst (has_half s runs) 0 (suspects s) (middle s runs)
IsFirst-middle s runs =
    let e : 0 + suspects s ≡ suspects s = omega arith in
    rw e at (IsFirst-first_from (has_half s runs) 0 (suspects s))

-- the facts of the block round the middle: it goes from behind b to f
record IsBlock (s : Setup) (runs : List Run) (skipped : List ℕ) (m b f : ℕ) : Type 0 where
  hypotheses_are : hypotheses s ≡ suspects s + 1
  first : IsFirst (has_half s runs) 0 (suspects s) m
  last : IsLast skipped m b
  next : IsFirst (is_open skipped) (m - 1) (suspects s) f

IsBlock-middle : (s : Setup) (runs : List Run) (skipped : List ℕ) → 1 ≤ total s runs →
    IsBlock s runs skipped (middle s runs) (last_below skipped (middle s runs))
    (first_at skipped (middle s runs) (suspects s))
IsBlock-middle s runs skipped some =
    let middle_is = IsFirst-middle s runs in
    record {
      hypotheses_are = omega (arith, some_hypothesis s runs some);
      first = middle_is;
      last = IsLast-last_below skipped (middle s runs);
      next = IsFirst-first_at skipped (middle s runs) (suspects s) (omega (arith, middle_is.above)) middle_is.within;
    }

-- ---- a block at the bar hides

-- each position from behind b to before f was skipped
block-skips : (s : Setup) (runs : List Run) (skipped : List ℕ) (m b f : ℕ) → IsBlock s runs skipped m b f →
    (p : ℕ) → b + 1 ≤ p → p < f → is_skipped skipped p ≡ true
block-skips s runs skipped m b f is p low high =
    ⊎_elim
    (λ (below : p < m). is.last.skips p (omega arith) below)
    (λ (from : m ≤ p).
    skipped-from_shut skipped p (is.next.before p (omega (arith, is.first.above)) high))
    (cases_lt p m)

-- a block of one hypothesis is at the bar where that one is
block-some : (s : Setup) (runs : List Run) (skipped : List ℕ) (m b f : ℕ) → IsBlock s runs skipped m b f →
    reached s runs ≡ None →
    s.bar_numerator * total s runs ≤ (cumulative s runs f - cumulative s runs b) * s.bar_denominator → b + 1 < f
block-some s runs skipped m b f is none at_bar =
    let lower = is.last.below (omega (arith, is.first.above)) in
    let upper = is.next.above in
    ⊎_elim
    (λ (more : b + 1 < f). more)
    (λ (one : f ≤ b + 1).
    let m_is : m ≡ f = omega (arith, lower, upper, is.first.above) in
    let b_is : b ≡ f - 1 = omega (arith, lower, upper, is.first.above) in
    let last_is : cumulative s runs f ≡ cumulative s runs (f - 1) + weight s runs f =
    sum_to_last (weight s runs) f (omega (arith, upper)) in
    let before_is : cumulative s runs b ≡ cumulative s runs (f - 1) = ap (cumulative s runs) b_is in
    let alone : cumulative s runs f - cumulative s runs b ≡ weight s runs f = omega (arith, last_is, before_is) in
    let here : s.bar_numerator * total s runs ≤ weight s runs f * s.bar_denominator =
    subst (λ (w : ℕ). s.bar_numerator * total s runs ≤ w * s.bar_denominator) alone at_bar in
    absurd
    (unreached-from_none s runs none f
    (record { first = omega (arith, upper); last = omega (arith, is.next.within, is.hypotheses_are); at_bar = here })))
    (cases_lt (b + 1) f)

block-hides : (s : Setup) (runs : List Run) (skipped : List ℕ) (m b f : ℕ) → IsBlock s runs skipped m b f →
    reached s runs ≡ None →
    s.bar_numerator * total s runs ≤ (cumulative s runs f - cumulative s runs b) * s.bar_denominator →
    IsHidden s runs skipped (b + 1) f
block-hides s runs skipped m b f is none at_bar =
    let same : b + 1 - 1 ≡ b = omega arith in
    record {
      first = omega arith;
      some = block-some s runs skipped m b f is none at_bar;
      last = omega (arith, is.next.within, is.hypotheses_are);
      skips = block-skips s runs skipped m b f is;
      at_bar = rw same at_bar;
    }

pub IsHidden-from_test : (s : Setup) (runs : List Run) (skipped : List ℕ) → 1 ≤ total s runs → reached s runs ≡ None →
    is_hidden s runs skipped ≡ true →
    IsHidden s runs skipped (last_below skipped (middle s runs) + 1) (first_at skipped (middle s runs) (suspects s))
IsHidden-from_test s runs skipped some none test =
    let b = last_below skipped (middle s runs) in
    let f = first_at skipped (middle s runs) (suspects s) in
    block-hides s runs skipped (middle s runs) b f (IsBlock-middle s runs skipped some) none
    (at_bar-from_test s.bar_numerator s.bar_denominator (total s runs) (cumulative s runs f - cumulative s runs b) test)

-- where nothing was skipped no two hypotheses are parted by skipped positions alone
pub is_hidden-nothing_skipped : (s : Setup) (runs : List Run) → 1 ≤ total s runs → reached s runs ≡ None →
    is_hidden s runs [] ≡ false
is_hidden-nothing_skipped s runs some none =
    ⊎_elim
    (λ (hidden : is_hidden s runs [] ≡ true).
    let it = IsHidden-from_test s runs [] some none hidden in
    let skips : false ≡ true = it.skips (last_below [] (middle s runs) + 1) (omega arith) it.some in
    absurd (false≢true skips))
    (λ (shown : is_hidden s runs [] ≡ false). shown)
    (cases_Bool (is_hidden s runs []))

-- ---- what is hidden is in the block

-- a part at a bar above a half is more than half of a positive whole
more_than_half : (t u whole part : ℕ) → u < 2 * t → 1 ≤ whole → t * whole ≤ part * u → whole < 2 * part
more_than_half t u whole part above some at_bar =
    ⊎_elim
    (λ (more : whole < 2 * part). more)
    (λ (less : 2 * part ≤ whole).
    let parts : 2 * part * u ≤ whole * u = mul-le-mul_right u less in
    let strict : u * whole < 2 * t * whole = mul-lt-mul_of_pos_right above some in
    let order : whole * u ≡ u * whole = mul_comm whole u in
    let twice : 2 * t * whole ≡ 2 * (t * whole) = mul_assoc 2 t whole in
    let twice_part : 2 * part * u ≡ 2 * (part * u) = mul_assoc 2 part u in
    absurd (omega (arith, parts, strict, order, twice, twice_part, at_bar)))
    (cases_lt whole (2 * part))

-- the middle is one of the hidden
block-holds : (s : Setup) (runs : List Run) (skipped : List ℕ) (m b f i j : ℕ) → IsBlock s runs skipped m b f →
    s.bar_denominator < 2 * s.bar_numerator → 1 ≤ total s runs → IsHidden s runs skipped i j → (i ≤ m) × (m ≤ j)
block-holds s runs skipped m b f i j is above some hidden =
    let T = total s runs in
    let w = weight s runs in
    let part = cumulative s runs j - cumulative s runs (i - 1) in
    let half : T < 2 * part = more_than_half s.bar_numerator s.bar_denominator T part above some hidden.at_bar in
    let all : cumulative s runs j ≤ T = sum_to_more w j (hypotheses s) hidden.last in
    let before : cumulative s runs (i - 1) ≤ cumulative s runs j =
    sum_to_more w (i - 1) j (omega (arith, hidden.some)) in
    let low : i ≤ m =
    ⊎_elim
    (λ (less : m < i).
    let within : m ≤ suspects s = omega (arith, hidden.some, hidden.last, is.hypotheses_are) in
    let passes : T ≤ 2 * cumulative s runs m = leb-true _ _ (is.first.passes within) in
    let upto : cumulative s runs m ≤ cumulative s runs (i - 1) = sum_to_more w m (i - 1) (omega arith) in
    absurd (omega (arith, passes, upto, half, all, before)))
    (λ (at : i ≤ m). at)
    (cases_lt m i) in
    let high : m ≤ j =
    ⊎_elim
    (λ (suspect : j ≤ suspects s).
    let test : has_half s runs j ≡ true = le-leb _ _ (omega (arith, half)) in
    first-le (has_half s runs) 0 (suspects s) m j is.first (omega (arith, hidden.first, hidden.some)) test)
    (λ (last : suspects s < j). omega (arith, is.first.within, last))
    (cases_le j (suspects s)) in
    (low, high)
  where
    cases_le : (a b : ℕ) → (a ≤ b) ⊎ (b < a)
    cases_le a b =
        ⊎_elim (λ (more : b < a). inr more) (λ (upto : a ≤ b). inl upto) (cases_lt b a)

-- so are all others
block-covers : (s : Setup) (runs : List Run) (skipped : List ℕ) (m b f i j : ℕ) → IsBlock s runs skipped m b f →
    IsHidden s runs skipped i j → i ≤ m → m ≤ j → (b ≤ i - 1) × (j ≤ f)
block-covers s runs skipped m b f i j is hidden low high =
    let below = is.last.below (omega (arith, is.first.above)) in
    let start : b ≤ i - 1 =
    ⊎_elim
    (λ (later : i - 1 < b).
    absurd
    (false≢true
    (sym (is.last.stays (omega arith)) ∙ hidden.skips b (omega (arith, hidden.first)) (omega arith))))
    (λ (at : b ≤ i - 1). at)
    (cases_lt (i - 1) b) in
    let end_ : j ≤ f =
    ⊎_elim
    (λ (earlier : f < j).
    let within : f ≤ suspects s = omega (arith, hidden.last, is.hypotheses_are) in
    absurd
    (false≢true
    (sym (free-from_open skipped f (is.next.passes within))
    ∙ hidden.skips f (omega (arith, is.next.above, low)) earlier)))
    (λ (at : j ≤ f). at)
    (cases_lt f j) in
    (start, end_)

pub is_hidden-from_IsHidden : (s : Setup) (runs : List Run) (skipped : List ℕ) (i j : ℕ) →
    s.bar_denominator < 2 * s.bar_numerator → 1 ≤ total s runs → IsHidden s runs skipped i j →
    is_hidden s runs skipped ≡ true
is_hidden-from_IsHidden s runs skipped i j above some hidden =
    let m = middle s runs in
    let b = last_below skipped m in
    let f = first_at skipped m (suspects s) in
    let w = weight s runs in
    let is : IsBlock s runs skipped m b f = IsBlock-middle s runs skipped some in
    let holds = block-holds s runs skipped m b f i j is above some hidden in
    let covers = block-covers s runs skipped m b f i j is hidden holds.0 holds.1 in
    let before : cumulative s runs b ≤ cumulative s runs (i - 1) = sum_to_more w b (i - 1) covers.0 in
    let upto : cumulative s runs j ≤ cumulative s runs f = sum_to_more w j f covers.1 in
    let more : cumulative s runs j - cumulative s runs (i - 1) ≤ cumulative s runs f - cumulative s runs b =
    omega arith in
    let scaled : (cumulative s runs j - cumulative s runs (i - 1)) * s.bar_denominator
    ≤ (cumulative s runs f - cumulative s runs b) * s.bar_denominator = mul-le-mul_right s.bar_denominator more in
    is_at_bar-true s.bar_numerator s.bar_denominator (total s runs) (cumulative s runs f - cumulative s runs b)
    (omega (arith, hidden.at_bar, scaled))

-- ---- no position open

-- up to the floor nothing weighs anything
nothing_below : (s : Setup) (runs : List Run) (i : ℕ) → i ≤ floor s.factors runs → cumulative s runs i ≡ 0
nothing_below s runs i within =
    sum_to-zero (weight s runs) i (λ q low high. weight-floor s runs q low (omega arith))

block-whole : (s : Setup) (runs : List Run) (skipped : List ℕ) (m b f : ℕ) → IsBlock s runs skipped m b f →
    1 ≤ total s runs → AreShut (is_open skipped) (floor s.factors runs) (suspects s) →
    (cumulative s runs b ≡ 0) × (f ≡ hypotheses s)
block-whole s runs skipped m b f is some shut =
    let low = floor s.factors runs in
    let inside : low ≤ suspects s =
    ⊎_elim
    (λ (past : suspects s < low).
    let nothing : total s runs ≡ 0 = nothing_below s runs (hypotheses s) (omega (arith, is.hypotheses_are)) in
    absurd (omega (arith, nothing, some)))
    (λ (at : low ≤ suspects s). at)
    (cases_lt (suspects s) low) in
    let above : low < m =
    ⊎_elim
    (λ (more : low < m). more)
    (λ (less : m ≤ low).
    let passes : total s runs ≤ 2 * cumulative s runs m = leb-true _ _ (is.first.passes (omega arith)) in
    let nothing : cumulative s runs m ≡ 0 = nothing_below s runs m less in
    absurd (omega (arith, passes, nothing, some)))
    (cases_lt low m) in
    let start : b ≤ low =
    ⊎_elim
    (λ (later : low < b).
    let within : b ≤ suspects s = omega (arith, is.last.below (omega arith), is.first.within) in
    absurd
    (false≢true
    (sym (is.last.stays (omega arith)) ∙ skipped-from_shut skipped b (shut b later within))))
    (λ (at : b ≤ low). at)
    (cases_lt low b) in
    let end_ : f ≡ hypotheses s =
    ⊎_elim
    (λ (earlier : f < hypotheses s).
    let within : f ≤ suspects s = omega (arith, earlier, is.hypotheses_are) in
    absurd (false≢true (sym (shut f (omega (arith, is.next.above, above)) within) ∙ is.next.passes within)))
    (λ (at : hypotheses s ≤ f). omega (arith, at, is.next.within, is.hypotheses_are))
    (cases_lt f (hypotheses s)) in
    (nothing_below s runs b start, end_)

pub is_hidden-none_open : (s : Setup) (runs : List Run) (skipped : List ℕ) → s.bar_numerator ≤ s.bar_denominator →
    1 ≤ total s runs → AreShut (is_open skipped) (floor s.factors runs) (suspects s) → is_hidden s runs skipped ≡ true
is_hidden-none_open s runs skipped one some shut =
    let m = middle s runs in
    let b = last_below skipped m in
    let f = first_at skipped m (suspects s) in
    let T = total s runs in
    let whole = block-whole s runs skipped m b f (IsBlock-middle s runs skipped some) some shut in
    let upto : cumulative s runs f ≡ T = ap (cumulative s runs) whole.1 in
    let all : cumulative s runs f - cumulative s runs b ≡ T = omega (arith, upto, whole.0) in
    let order : s.bar_numerator * T ≤ s.bar_denominator * T = mul-le-mul_right T one in
    let turned : s.bar_denominator * T ≡ T * s.bar_denominator = mul_comm s.bar_denominator T in
    let at_bar : s.bar_numerator * T ≤ T * s.bar_denominator = omega (arith, order, turned) in
    is_at_bar-true s.bar_numerator s.bar_denominator T (cumulative s runs f - cumulative s runs b)
    (subst (λ (w : ℕ). s.bar_numerator * T ≤ w * s.bar_denominator) (sym all) at_bar)
