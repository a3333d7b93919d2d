-- One run more: what it does to each weight, to the floor, to the live runs and to the load.
use Rattle.std.proofs.Common.{◌≡◌, ℕ, ◌+◌, ◌*◌, ◌<◌, ◌≤◌, max, Bool, true, false, if◌then◌else◌, nat_le, nat_lt, List, [], ◌∷◌, ◌++◌, length, filter, refl, sym, ap, ◌∙◌, arith, ⊎_elim, mul-zero, zero-mul, le-ltb, lt-ltb, le-leb, ltb-true, eq-zero-or-pos, append-nil}
use Rattle.std.proofs.lemmas.Bool.{cases_lt, cases_Bool, and_parts, and_from}
use Rattle.std.proofs.lemmas.List.{length_push}
use Rattle.std.proofs.lemmas.List.Elements.{filter-append}
use Rattle.std.proofs.lemmas.List.Sums.{length-filter, count_by-le-length}
use Rattle.weight_exact.specs.Factors.{factor, verdict_factor}
use Rattle.weight_exact.specs.Weights.{Setup, prior, likelihood, weight}
use Rattle.weight_exact.specs.Load.{is_fail, passed_at, last_pass, floor, is_fail_above, live, load, may_miss}
use Rattle.weight_exact.specs.declared.factors.Factors.{Factors}
use Rattle.weight_exact.specs.declared.run.Run.{Run}
use Rattle.weight_exact.specs.declared.run.Verdict.{Verdict}
use Rattle.weight_exact.specs.declared.run.Verdict.TheVariants.{Pass, Fail}

-- no runs are no load
pub load-none : (f : Factors) → load f [] ≡ 0
load-none f = elim (may_miss f) as (λ b. length (if b then [] else filter (is_fail_above 0) []) ≡ 0) [ true ↦ refl | false ↦ refl ]

-- where a broken test never passes, the floor is the last pass
pub floor_no_miss : (f : Factors) (runs : List Run) → f.pass_in ≡ 0 → floor f runs ≡ last_pass runs
floor_no_miss f runs never = let test : nat_lt 0 f.pass_in ≡ false = le-ltb 0 f.pass_in (omega arith) in rw test

-- where it may pass, nobody is cleared
pub floor_may_miss : (f : Factors) (runs : List Run) → 1 ≤ f.pass_in → floor f runs ≡ 0
floor_may_miss f runs may = let test : nat_lt 0 f.pass_in ≡ true = lt-ltb 0 f.pass_in may in rw test

-- where a broken test never passes, the fails above the last pass are live
pub live_no_miss : (f : Factors) (runs : List Run) → f.pass_in ≡ 0 →
    live f runs ≡ filter (is_fail_above (last_pass runs)) runs
live_no_miss f runs never = let test : nat_lt 0 f.pass_in ≡ false = le-ltb 0 f.pass_in (omega arith) in rw test

-- where it may pass, each run is live
pub live_may_miss : (f : Factors) (runs : List Run) → 1 ≤ f.pass_in → live f runs ≡ runs
live_may_miss f runs may = let test : nat_lt 0 f.pass_in ≡ true = lt-ltb 0 f.pass_in may in rw test

-- the last pass of two lists, one after the other
pub last_pass-append : (runs more : List Run) → last_pass (runs ++ more) ≡ max (last_pass runs) (last_pass more)
last_pass-append [] more = omega arith
last_pass-append (r ∷ rs) more = omega (arith, last_pass-append rs more)

pub last_pass_push : (runs : List Run) (r : Run) →
    last_pass (runs ++ r ∷ []) ≡ max (last_pass runs) (passed_at r.verdict r.position)
last_pass_push runs r = omega (arith, last_pass-append runs (r ∷ []))

-- whether one run is a fail above a position
pub is_fail_above_fail : (k : ℕ) (r : Run) → r.verdict ≡ Fail → k < r.position → is_fail_above k r ≡ true
is_fail_above_fail k r is above = let test : nat_lt k r.position ≡ true = lt-ltb k r.position above in rw (is, test)

pub is_fail_above_below : (k : ℕ) (r : Run) → r.verdict ≡ Fail → r.position ≤ k → is_fail_above k r ≡ false
is_fail_above_below k r is below = let test : nat_lt k r.position ≡ false = le-ltb k r.position below in rw (is, test)

pub is_fail_above_pass : (k : ℕ) (r : Run) → r.verdict ≡ Pass → is_fail_above k r ≡ false
is_fail_above_pass k r is = rw is

-- ---- the floor clears

-- a run multiplies the hypotheses that it clears by 0
verdict_factor-passed_at : (f : Factors) (v : Verdict) (i k : ℕ) → f.pass_in ≡ 0 → 1 ≤ i → i ≤ passed_at v k →
    verdict_factor f v (nat_le i k) ≡ 0
verdict_factor-passed_at f Pass i k never low within = let test : nat_le i k ≡ true = le-leb i k within in rw test never
verdict_factor-passed_at f Fail i k never low within = absurd (omega arith)

-- where a broken test never passes, the hypotheses up to the last pass have the likelihood 0
pub likelihood_cleared : (f : Factors) (runs : List Run) (i : ℕ) → f.pass_in ≡ 0 → 1 ≤ i → i ≤ last_pass runs →
    likelihood f i runs ≡ 0
likelihood_cleared f [] i never low within = absurd (omega arith)
likelihood_cleared f (r ∷ rs) i never low within =
    ⊎_elim
    (λ (above : passed_at r.verdict r.position < i).
    let rest : likelihood f i rs ≡ 0 = likelihood_cleared f rs i never low (omega arith) in
    ap (λ n. factor f i r * n) rest ∙ mul-zero (factor f i r))
    (λ (here : i ≤ passed_at r.verdict r.position).
    let none : factor f i r ≡ 0 = verdict_factor-passed_at f r.verdict i r.position never low here in
    ap (λ n. n * likelihood f i rs) none ∙ zero-mul (likelihood f i rs))
    (cases_lt (passed_at r.verdict r.position) i)

-- the hypotheses up to the floor have the likelihood 0
pub likelihood-floor : (f : Factors) (runs : List Run) (i : ℕ) → 1 ≤ i → i ≤ floor f runs → likelihood f i runs ≡ 0
likelihood-floor f runs i low within =
    ⊎_elim
    (λ (never : f.pass_in ≡ 0). likelihood_cleared f runs i never low (omega (arith, floor_no_miss f runs never)))
    (λ (may : 0 < f.pass_in). absurd (omega (arith, floor_may_miss f runs may)))
    (eq-zero-or-pos f.pass_in)

-- the hypotheses up to the floor weigh 0
pub weight-floor : (s : Setup) (runs : List Run) (i : ℕ) → 1 ≤ i → i ≤ floor s.factors runs → weight s runs i ≡ 0
weight-floor s runs i low within =
    ap (λ n. prior s i * n) (likelihood-floor s.factors runs i low within) ∙ mul-zero (prior s i)

-- ---- the floor after one run more

-- where a broken test never passes, a pass raises the floor to its position
pub floor_push_pass : (f : Factors) (runs : List Run) (r : Run) → f.pass_in ≡ 0 → r.verdict ≡ Pass →
    floor f (runs ++ r ∷ []) ≡ max (floor f runs) r.position
floor_push_pass f runs r never is =
    rw (floor_no_miss f (runs ++ r ∷ []) never, floor_no_miss f runs never, last_pass_push runs r, is)

-- a fail keeps the floor
pub floor_push_fail : (f : Factors) (runs : List Run) (r : Run) → r.verdict ≡ Fail →
    floor f (runs ++ r ∷ []) ≡ floor f runs
floor_push_fail f runs r is =
    let last_is : last_pass (runs ++ r ∷ []) ≡ last_pass runs = rw (last_pass_push runs r, is) (omega arith) in
    rw last_is

-- ---- the live runs after one run more

-- where a broken test never passes, the fails above the floor are live
pub live-floor : (f : Factors) (runs : List Run) (k : ℕ) → f.pass_in ≡ 0 → floor f runs ≡ k →
    live f runs ≡ filter (is_fail_above k) runs
live-floor f runs k never is =
    let last_is : last_pass runs ≡ k = sym (floor_no_miss f runs never) ∙ is in
    live_no_miss f runs never ∙ ap (λ n. filter (is_fail_above n) runs) last_is

-- one run more passes a filter by itself
filter_push_kept : (p : Run → Bool) (runs : List Run) (r : Run) → p r ≡ true →
    filter p (runs ++ r ∷ []) ≡ filter p runs ++ r ∷ []
filter_push_kept p runs r holds = rw (filter-append p runs (r ∷ []), holds)

filter_push_dropped : (p : Run → Bool) (runs : List Run) (r : Run) → p r ≡ false →
    filter p (runs ++ r ∷ []) ≡ filter p runs
filter_push_dropped p runs r fails = rw (filter-append p runs (r ∷ []), fails, append-nil)

-- where a broken test never passes, a run that is no fail above a floor that stays is not live
live_push_dropped : (f : Factors) (runs : List Run) (r : Run) → f.pass_in ≡ 0 →
    floor f (runs ++ r ∷ []) ≡ floor f runs → is_fail_above (floor f runs) r ≡ false →
    live f (runs ++ r ∷ []) ≡ live f runs
live_push_dropped f runs r never stays fails =
    let k = floor f runs in
    live-floor f (runs ++ r ∷ []) k never stays ∙
    (filter_push_dropped (is_fail_above k) runs r fails ∙ sym (live-floor f runs k never refl))

-- where a broken test may pass, each run is live
pub live_push_may_miss : (f : Factors) (runs : List Run) (r : Run) → 1 ≤ f.pass_in →
    live f (runs ++ r ∷ []) ≡ live f runs ++ r ∷ []
live_push_may_miss f runs r may = rw (live_may_miss f (runs ++ r ∷ []) may, live_may_miss f runs may)

-- a fail above the floor is live
pub live_push_fail_above : (f : Factors) (runs : List Run) (r : Run) → r.verdict ≡ Fail → floor f runs < r.position →
    live f (runs ++ r ∷ []) ≡ live f runs ++ r ∷ []
live_push_fail_above f runs r is above =
    let k = floor f runs in
    ⊎_elim
    (λ (never : f.pass_in ≡ 0).
    live-floor f (runs ++ r ∷ []) k never (floor_push_fail f runs r is) ∙
    (filter_push_kept (is_fail_above k) runs r (is_fail_above_fail k r is above) ∙
    ap (λ xs. xs ++ r ∷ []) (sym (live-floor f runs k never refl))))
    (λ (may : 0 < f.pass_in). live_push_may_miss f runs r may)
    (eq-zero-or-pos f.pass_in)

-- where a broken test never passes, a fail at or below the floor is not live
pub live_push_fail_below : (f : Factors) (runs : List Run) (r : Run) → f.pass_in ≡ 0 → r.verdict ≡ Fail →
    r.position ≤ floor f runs → live f (runs ++ r ∷ []) ≡ live f runs
live_push_fail_below f runs r never is below =
    live_push_dropped f runs r never (floor_push_fail f runs r is) (is_fail_above_below (floor f runs) r is below)

-- and a pass at or below the floor changes nothing
pub live_push_pass_below : (f : Factors) (runs : List Run) (r : Run) → f.pass_in ≡ 0 → r.verdict ≡ Pass →
    r.position ≤ floor f runs → live f (runs ++ r ∷ []) ≡ live f runs
live_push_pass_below f runs r never is below =
    let raised = floor_push_pass f runs r never is in
    live_push_dropped f runs r never (omega arith) (is_fail_above_pass (floor f runs) r is)

-- what a stricter test keeps of what a looser one kept, it keeps of the whole
filter-filter : (p q : Run → Bool) → ((r : Run) → p r ≡ true → q r ≡ true) → (runs : List Run) →
    filter p (filter q runs) ≡ filter p runs
filter-filter p q stricter [] = refl
filter-filter p q stricter (r ∷ rs) =
    let rest : filter p (filter q rs) ≡ filter p rs = filter-filter p q stricter rs in
    ⊎_elim
    (λ (holds : p r ≡ true). let both : q r ≡ true = stricter r holds in rw (both, holds, rest))
    (λ (fails : p r ≡ false).
    ⊎_elim
    (λ (kept : q r ≡ true). rw (kept, fails, rest))
    (λ (dropped : q r ≡ false). rw (dropped, fails, rest))
    (cases_Bool (q r)))
    (cases_Bool (p r))

-- a fail above a higher position is one above a lower
is_fail_above-lower : (low high : ℕ) (r : Run) → low ≤ high → is_fail_above high r ≡ true → is_fail_above low r ≡ true
is_fail_above-lower low high r less holds =
    let parts = and_parts (is_fail r.verdict) (nat_lt high r.position) holds in
    let above : low < r.position = omega (arith, ltb-true high r.position parts.1) in
    and_from (is_fail r.verdict) (nat_lt low r.position) parts.0 (lt-ltb low r.position above)

-- a pass at or above the floor leaves the fails above it, of all runs and so of the live ones
pub live_push_pass_above : (f : Factors) (runs : List Run) (r : Run) → f.pass_in ≡ 0 → r.verdict ≡ Pass →
    floor f runs ≤ r.position → live f (runs ++ r ∷ []) ≡ filter (is_fail_above r.position) runs
live_push_pass_above f runs r never is above =
    let raised = floor_push_pass f runs r never is in
    live-floor f (runs ++ r ∷ []) r.position never (omega arith) ∙
    filter_push_dropped (is_fail_above r.position) runs r (is_fail_above_pass r.position r is)

pub live_push_pass_above_live : (f : Factors) (runs : List Run) (r : Run) → f.pass_in ≡ 0 → r.verdict ≡ Pass →
    floor f runs ≤ r.position → live f (runs ++ r ∷ []) ≡ filter (is_fail_above r.position) (live f runs)
live_push_pass_above_live f runs r never is above =
    let k = floor f runs in
    let test = is_fail_above r.position in
    let stricter = λ (x : Run). is_fail_above-lower k r.position x above in
    live_push_pass_above f runs r never is above ∙
    sym (ap (filter test) (live-floor f runs k never refl) ∙ filter-filter test (is_fail_above k) stricter runs)

-- ---- the load after one run more

-- a fail above the floor adds one to the load
pub load_push_fail_above : (f : Factors) (runs : List Run) (r : Run) → r.verdict ≡ Fail → floor f runs < r.position →
    load f (runs ++ r ∷ []) ≡ load f runs + 1
load_push_fail_above f runs r is above =
    ap length (live_push_fail_above f runs r is above) ∙ length_push (live f runs) r

-- where a broken test may pass, each run adds one
pub load_push_may_miss : (f : Factors) (runs : List Run) (r : Run) → 1 ≤ f.pass_in →
    load f (runs ++ r ∷ []) ≡ load f runs + 1
load_push_may_miss f runs r may = ap length (live_push_may_miss f runs r may) ∙ length_push (live f runs) r

-- where it never passes, a run at or below the floor keeps the load
pub load_push_fail_below : (f : Factors) (runs : List Run) (r : Run) → f.pass_in ≡ 0 → r.verdict ≡ Fail →
    r.position ≤ floor f runs → load f (runs ++ r ∷ []) ≡ load f runs
load_push_fail_below f runs r never is below = ap length (live_push_fail_below f runs r never is below)

pub load_push_pass_below : (f : Factors) (runs : List Run) (r : Run) → f.pass_in ≡ 0 → r.verdict ≡ Pass →
    r.position ≤ floor f runs → load f (runs ++ r ∷ []) ≡ load f runs
load_push_pass_below f runs r never is below = ap length (live_push_pass_below f runs r never is below)

-- and no pass adds to the load
pub load_push_pass-le : (f : Factors) (runs : List Run) (r : Run) → f.pass_in ≡ 0 → r.verdict ≡ Pass →
    load f (runs ++ r ∷ []) ≤ load f runs
load_push_pass-le f runs r never is =
    ⊎_elim
    (λ (above : floor f runs < r.position).
    omega (
      arith,
      ap length (live_push_pass_above_live f runs r never is (omega arith)),
      length-filter (is_fail_above r.position) (live f runs),
      count_by-le-length (is_fail_above r.position) (live f runs),
    ))
    (λ (below : r.position ≤ floor f runs). omega (arith, load_push_pass_below f runs r never is below))
    (cases_lt (floor f runs) r.position)
