-- The block round the middle over the sums of a search is that of the search.
use Rattle.std.proofs.Common.{◌≡◌, ℕ, zero, suc, ◌+◌, ◌-◌, ◌*◌, ◌/◌, ◌<◌, ◌≤◌, ◌↔◌, Bool, true, false, nat_le, List, length, sym, ap, ◌∙◌, arith, ⊎_elim, le-leb, leb-true, mul-le-mul_right, le_of_mul-le-mul_right, mul_comm}
use Rattle.std.proofs.Math.Nat.{mul-sub}
use Rattle.std.proofs.lemmas.Bool.{cases_Bool, cases_lt, cases_order, false≢true, lt-leb}
use Rattle.weight_exact.specs.Cumulative.{AreRising}
use Rattle.weight_exact.specs.Share.{is_at_bar}
use Rattle.weight_exact.specs.Weights.{Setup, cumulative, hypotheses, suspects, sum_to, total, weight}
use Rattle.weight_exact.specs.declared.run.Run.{Run}
use Rattle.weight_exact.proofs.Shares.{at_bar-scaled}
use Rattle.weight_exact.proofs.SumTo.{sum_to_more}
use Rattle.threshold_pick.specs.HiddenBlocks.{first_at, first_from, is_hidden, last_below, middle}
use Rattle.threshold_pick.proofs.Firsts.{IsFirst, IsFirst-first_at, IsFirst-first_from, IsLast-last_below, first_from-same}
use Rattle.threshold_pick.specs.Sums.{sum_at, suspects_in, whole}
use Rattle.threshold_pick.specs.Blocks.{is_hidden_in, middle_in, sum_upto}
use Rattle.threshold_pick.specs.Cumulative.{AreCumulative}

-- tests of facts that follow from one another are equal
same_tests : (a b c d : ℕ) → (a ≤ b) ↔ (c ≤ d) → nat_le a b ≡ nat_le c d
same_tests a b c d both =
    ⊎_elim
    (λ (passes : nat_le a b ≡ true).
    passes ∙ sym (le-leb c d (both.0 (leb-true a b passes))))
    (λ (fails : nat_le a b ≡ false).
    ⊎_elim
    (λ (passes : nat_le c d ≡ true).
    absurd (false≢true (sym fails ∙ le-leb a b (both.1 (leb-true c d passes)))))
    (λ (also : nat_le c d ≡ false). fails ∙ sym also)
    (cases_Bool (nat_le c d)))
    (cases_Bool (nat_le a b))

-- a sum of two sums, and so a test against a bar, by parts of the whole
is_at_bar-scaled : (t u v whole_ w other : ℕ) → 1 ≤ whole_ → 1 ≤ other → v * other ≡ w * whole_ →
    is_at_bar t u whole_ v ≡ is_at_bar t u other w
is_at_bar-scaled t u v whole_ w other some_whole some_other same =
    same_tests (t * whole_) (v * u) (t * other) (w * u) (at_bar-scaled t u v whole_ w other some_whole some_other same)

-- half of the whole, as a bar
has_half-scaled : (v whole_ w other : ℕ) → 1 ≤ whole_ → 1 ≤ other → v * other ≡ w * whole_ →
    nat_le whole_ (2 * v) ≡ nat_le other (2 * w)
has_half-scaled v whole_ w other some_whole some_other same =
    let both : (1 * whole_ ≤ v * 2) ↔ (1 * other ≤ w * 2) =
    at_bar-scaled 1 2 v whole_ w other some_whole some_other same in
    same_tests whole_ (2 * v) other (2 * w) (
      λ reaches. let there = both.0 (omega (arith, reaches)) in omega (arith, there),
      λ reaches. let here = both.1 (omega (arith, reaches)) in omega (arith, here),
    )

-- ---- the sums of a search

middle_in-middle : (s : Setup) (runs : List Run) (sums : List ℕ) → AreCumulative s runs sums → 1 ≤ total s runs →
    middle_in sums ≡ middle s runs
middle_in-middle s runs sums are some =
    let n : suspects_in sums ≡ suspects s = ap (λ n. n - 1) are.one_each in
    let test : ℕ → Bool = λ i. nat_le (whole sums) (2 * sum_at sums i) in
    ap (λ (m : ℕ). first_from test 0 m) n
    ∙ first_from-same test (λ i. nat_le (total s runs) (2 * cumulative s runs i)) 0 (suspects s)
    (λ q above within.
    has_half-scaled (sum_at sums q) (whole sums) (cumulative s runs q) (total s runs) are.some some
    (are.parts q (omega arith) (omega arith)))

sum_upto-scaled : (s : Setup) (runs : List Run) (sums : List ℕ) (i : ℕ) → AreCumulative s runs sums →
    i ≤ hypotheses s → sum_upto sums i * total s runs ≡ cumulative s runs i * whole sums
sum_upto-scaled s runs sums zero are within = omega arith
sum_upto-scaled s runs sums (suc i) are within = are.parts (suc i) (omega arith) within

difference-scaled : (x y v w whole_ other : ℕ) → x * other ≡ v * whole_ → y * other ≡ w * whole_ →
    (x - y) * other ≡ (v - w) * whole_
difference-scaled x y v w whole_ other first second =
    let left : other * (x - y) ≡ other * x - other * y = mul-sub other x y in
    let right : whole_ * (v - w) ≡ whole_ * v - whole_ * w = mul-sub whole_ v w in
    let a : other * x ≡ whole_ * v = mul_comm other x ∙ first ∙ mul_comm v whole_ in
    let b : other * y ≡ whole_ * w = mul_comm other y ∙ second ∙ mul_comm w whole_ in
    mul_comm (x - y) other ∙ omega (arith, left, right, a, b) ∙ mul_comm whole_ (v - w)

-- where there is a total there is a hypothesis
some_hypothesis : (s : Setup) (runs : List Run) → 1 ≤ total s runs → 1 ≤ hypotheses s
some_hypothesis s runs some =
    ⊎_elim
    (λ (none : hypotheses s < 1).
    let e : hypotheses s ≡ 0 = omega arith in
    let zero_is : total s runs ≡ 0 = ap (λ (n : ℕ). sum_to (weight s runs) n) e in
    absurd (omega (arith, zero_is, some)))
    (λ (one : 1 ≤ hypotheses s). one)
    (cases_lt (hypotheses s) 1)

block-scaled : (s : Setup) (runs : List Run) (sums skipped : List ℕ) (m : ℕ) → AreCumulative s runs sums →
    1 ≤ total s runs → 1 ≤ m → m ≤ suspects s + 1 →
    is_at_bar s.bar_numerator s.bar_denominator (whole sums)
    (sum_upto sums (first_at skipped m (suspects s)) - sum_upto sums (last_below skipped m))
    ≡ is_at_bar s.bar_numerator s.bar_denominator (total s runs)
    (cumulative s runs (first_at skipped m (suspects s)) - cumulative s runs (last_below skipped m))
block-scaled s runs sums skipped m are some first last =
    let f = first_at skipped m (suspects s) in
    let b = last_below skipped m in
    let one = some_hypothesis s runs some in
    let f_is = IsFirst-first_at skipped m (suspects s) first last in
    let b_is = IsLast-last_below skipped m in
    is_at_bar-scaled s.bar_numerator s.bar_denominator (sum_upto sums f - sum_upto sums b) (whole sums)
    (cumulative s runs f - cumulative s runs b) (total s runs) are.some some
    (difference-scaled (sum_upto sums f) (sum_upto sums b) (cumulative s runs f) (cumulative s runs b) (whole sums)
    (total s runs)
    (sum_upto-scaled s runs sums f are (omega (arith, one, f_is.within)))
    (sum_upto-scaled s runs sums b are (omega (arith, one, b_is.upto, last))))

pub is_hidden_in-is_hidden : (s : Setup) (runs : List Run) (sums skipped : List ℕ) → AreCumulative s runs sums →
    1 ≤ total s runs → is_hidden_in s.bar_numerator s.bar_denominator sums skipped ≡ is_hidden s runs skipped
is_hidden_in-is_hidden s runs sums skipped are some =
    let n : suspects_in sums ≡ suspects s = ap (λ n. n - 1) are.one_each in
    let m : middle_in sums ≡ middle s runs = middle_in-middle s runs sums are some in
    let test : ℕ → Bool = λ i. nat_le (total s runs) (2 * cumulative s runs i) in
    let range = IsFirst-first_from test 0 (suspects s) in
    let here : ℕ → ℕ → Bool =
    λ h last. is_at_bar s.bar_numerator s.bar_denominator (whole sums)
    (sum_upto sums (first_at skipped h last) - sum_upto sums (last_below skipped h)) in
    ap (λ (h : ℕ). here h (suspects_in sums)) m ∙ ap (here (middle s runs)) n
    ∙ block-scaled s runs sums skipped (middle s runs) are some (omega (arith, range.above))
    (omega (arith, range.within))

-- no sum is less than an earlier one
pub AreRising-cumulative : (s : Setup) (runs : List Run) (sums : List ℕ) → AreCumulative s runs sums →
    1 ≤ total s runs → AreRising sums
AreRising-cumulative s runs sums are some i j order within =
    let e_i : i + 1 - 1 ≡ i = omega arith in
    let e_j : j + 1 - 1 ≡ j = omega arith in
    let last : j + 1 ≤ hypotheses s = omega (arith, within, are.one_each) in
    let here = rw e_i at (are.parts (i + 1) (omega arith) (omega arith)) in
    let there = rw e_j at (are.parts (j + 1) (omega arith) last) in
    let rising : cumulative s runs (i + 1) ≤ cumulative s runs (j + 1) =
    sum_to_more (weight s runs) (i + 1) (j + 1) (omega arith) in
    let scaled : cumulative s runs (i + 1) * whole sums ≤ cumulative s runs (j + 1) * whole sums =
    mul-le-mul_right (whole sums) rising in
    le_of_mul-le-mul_right (omega (arith, here, there, scaled)) some

-- ---- what code finds

-- one number is the first
IsFirst_once : (test : ℕ → Bool) (low last i j : ℕ) → IsFirst test low last i → IsFirst test low last j → i ≡ j
IsFirst_once test low last i j first second =
    ⊎_elim
    (λ (same : i ≡ j). same)
    (⊎_elim
    (λ (less : i < j).
    absurd
    (false≢true
    (sym (second.before i first.above less) ∙ first.passes (omega (arith, less, second.within)))))
    (λ (more : j < i).
    absurd
    (false≢true
    (sym (first.before j second.above more) ∙ second.passes (omega (arith, more, first.within))))))
    (cases_order i j)

-- a hypothesis before which no sum is half of the whole, and from which on each is, is the middle one
pub middle_in-is : (sums : List ℕ) (half m : ℕ) → half ≡ whole sums - whole sums / 2 → 1 ≤ m →
    m ≤ suspects_in sums + 1 →
    ((i : ℕ) → 1 ≤ i → i < m → sum_at sums i < half) →
    ((i : ℕ) → m ≤ i → i ≤ suspects_in sums → half ≤ sum_at sums i) → m ≡ middle_in sums
middle_in-is sums half m half_is first last before from =
    let n = suspects_in sums in
    let test : ℕ → Bool = λ i. nat_le (whole sums) (2 * sum_at sums i) in
    let e : 0 + n ≡ n = omega arith in
    let found : IsFirst test 0 n m =
    record {
      above = omega arith;
      within = last;
      before = λ q above below.
          let less = before q (omega arith) below in
          fails_half (whole sums) (sum_at sums q) (omega (arith, less, half_is));
      passes = λ within. let more = from m (omega arith) within in le-leb _ _ (omega (arith, more, half_is));
    } in
    IsFirst_once test 0 n m (middle_in sums) found (rw e at (IsFirst-first_from test 0 n))
  where
    fails_half : (whole_ sum : ℕ) → 2 * sum < whole_ → nat_le whole_ (2 * sum) ≡ false
    fails_half whole_ sum less = lt-leb whole_ (2 * sum) less

-- ---- the sums at the ends of a block

pub sum_upto-le : (sums : List ℕ) (i j : ℕ) → AreRising sums → i ≤ j → j ≤ length sums →
    sum_upto sums i ≤ sum_upto sums j
sum_upto-le sums zero j rising order within = omega arith
sum_upto-le sums (suc i) zero rising order within = absurd (omega arith)
sum_upto-le sums (suc i) (suc j) rising order within =
    rising (suc i - 1) (suc j - 1) (omega arith) (omega arith)

pub sum_upto-le-whole : (sums : List ℕ) (i : ℕ) → AreRising sums → 1 ≤ length sums → i ≤ length sums →
    sum_upto sums i ≤ whole sums
sum_upto-le-whole sums zero rising some within = omega arith
sum_upto-le-whole sums (suc i) rising some within = rising (suc i - 1) (length sums - 1) (omega arith) (omega arith)

-- a block goes from behind a hypothesis to one that isn't before it, within the sums
pub block-range : (sums skipped : List ℕ) (m n b f : ℕ) → n + 1 ≡ length sums → 1 ≤ m → m ≤ n + 1 →
    b ≡ last_below skipped m → f ≡ first_at skipped m n → (b ≤ f) × (f ≤ length sums)
block-range sums skipped m n b f n_is first last b_is f_is =
    let b_in = IsLast-last_below skipped m in
    let f_in = IsFirst-first_at skipped m n first last in (
      omega (arith, b_is, f_is, b_in.upto, f_in.above, first),
      omega (arith, f_is, f_in.within, n_is),
    )
