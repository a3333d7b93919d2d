-- The counts above the floor are those of the live runs.
use Rattle.std.proofs.Common.{◌≡◌, ℕ, ◌+◌, ◌<◌, ◌≤◌, Bool, true, false, cond, not, ◌&&◌, ◌==◌, List, [], ◌∷◌, length, filter, count_by, All, refl, sym, ap, ◌∙◌, arith, ⊎_elim}
use Rattle.std.proofs.lemmas.Bool.{cases_lt}
use Rattle.std.proofs.lemmas.Bool.Decides.{nat_tests}
use Rattle.std.proofs.lemmas.List.Elements.{All-head, All-tail, All-cons}
use Rattle.weight_exact.specs.Load.{is_fail, passed_at, last_pass, floor, is_fail_above, live, may_miss}
use Rattle.weight_exact.specs.declared.factors.Factors.{Factors}
use Rattle.weight_exact.specs.declared.run.Run.{Run}
use Rattle.weight_exact.specs.declared.run.Verdict.{Verdict}
use Rattle.weight_exact.specs.declared.run.Verdict.TheVariants.{Pass, Fail}
use Rattle.weight_exact.proofs.Floors.{floor_no_miss, floor_may_miss, live_no_miss, live_may_miss}
use Rattle.posterior.specs.Kept.{at}
use Rattle.weight_exact.specs.Counts.{is_fail_at, is_pass_at}
use Rattle.posterior.specs.Counted.{AreCleared}
use Rattle.posterior.proofs.CountLemmas.{count_by-cons, Within}

-- counts at positions 1 to n that are those of the runs of a list which pass a test
pub record AreCounts (n : ℕ) (counts : List ℕ) (test : Run → Bool) (runs : List Run) : Type 0 where
  pub long : length counts ≡ n
  pub each : (p : ℕ) → 1 ≤ p → p ≤ n → at counts p ≡ count_by (λ (r : Run). test r && r.position == p) runs

-- what a filter leaves in range
pub within_filter : (n : ℕ) (test : Run → Bool) (runs : List Run) → All (Within n) runs → All (Within n) (filter test runs)
within_filter n test [] all = all
within_filter n test (r ∷ rs) all =
    let rest : All (Within n) (filter test rs) = within_filter n test rs (All-tail (Within n) r rs all) in
    elim (test r) as (λ b. All (Within n) (cond b (r ∷ filter test rs) (filter test rs))) [
      | true ↦ All-cons (Within n) r (filter test rs) (All-head (Within n) r rs all) rest
      | false ↦ rest
    ]

-- the live runs are in range
pub within_live : (n : ℕ) (f : Factors) (runs : List Run) → All (Within n) runs → All (Within n) (live f runs)
within_live n f runs all =
    elim (may_miss f) as (λ b. All (Within n) (cond b runs (filter (is_fail_above (last_pass runs)) runs))) [
      | true ↦ all
      | false ↦ within_filter n (is_fail_above (last_pass runs)) runs all
    ]

-- a filter that lets all pass that are counted keeps the count
count_by-filter_keeps : (test keep : Run → Bool) (runs : List Run) → ((r : Run) → keep r ≡ false → test r ≡ false) → count_by test (filter keep runs) ≡ count_by test runs
count_by-filter_keeps test keep [] lets = refl
count_by-filter_keeps test keep (r ∷ rs) lets =
    let mark : Bool → ℕ = λ b. cond b 1 0 in
    let rest : count_by test (filter keep rs) ≡ count_by test rs = count_by-filter_keeps test keep rs lets in
    let joined : count_by test (r ∷ rs) ≡ cond (test r) 1 0 + count_by test rs = count_by-cons test r rs in
    let cases : (b : Bool) → keep r ≡ b → count_by test (cond b (r ∷ filter keep rs) (filter keep rs)) ≡ cond (test r) 1 0 + count_by test rs =
    λ b. elim b as (λ b. keep r ≡ b → count_by test (cond b (r ∷ filter keep rs) (filter keep rs)) ≡ cond (test r) 1 0 + count_by test rs) [
      | true ↦ (λ _. count_by-cons test r (filter keep rs) ∙ ap (λ n. cond (test r) 1 0 + n) rest)
      | false ↦ (λ e. let none : mark (test r) ≡ 0 = ap mark (lets r e) in omega (arith, rest, none))
    ] in
    cases (keep r) refl ∙ sym joined

-- a filter that lets nothing pass that is counted leaves a count of 0
count_by-filter_none : (test keep : Run → Bool) (runs : List Run) → ((r : Run) → keep r ≡ true → test r ≡ false) → count_by test (filter keep runs) ≡ 0
count_by-filter_none test keep [] lets = refl
count_by-filter_none test keep (r ∷ rs) lets =
    let mark : Bool → ℕ = λ b. cond b 1 0 in
    let rest : count_by test (filter keep rs) ≡ 0 = count_by-filter_none test keep rs lets in
    let cases : (b : Bool) → keep r ≡ b → count_by test (cond b (r ∷ filter keep rs) (filter keep rs)) ≡ 0 =
    λ b. elim b as (λ b. keep r ≡ b → count_by test (cond b (r ∷ filter keep rs) (filter keep rs)) ≡ 0) [
      | true ↦ (λ e. let none : mark (test r) ≡ 0 = ap mark (lets r e) in omega (arith, rest, none, count_by-cons test r (filter keep rs)))
      | false ↦ (λ _. rest)
    ] in
    cases (keep r) refl

-- a fail at a position above k is a fail above k
fail_at_above : (k p : ℕ) (r : Run) → k < p → is_fail_above k r ≡ false → is_fail_at p r ≡ false
fail_at_above k p r above not_kept = grind (arith, nat_tests)

-- a fail above k is none at a position up to k
fail_above_not_at : (k p : ℕ) (r : Run) → p ≤ k → is_fail_above k r ≡ true → is_fail_at p r ≡ false
fail_above_not_at k p r below kept = grind (arith, nat_tests)

-- a fail above k is no pass
fail_above_no_pass : (k p : ℕ) (r : Run) → is_fail_above k r ≡ true → is_pass_at p r ≡ false
fail_above_no_pass k p r kept = grind (arith, nat_tests)

-- no run passed above the last pass
count_by-pass_above : (runs : List Run) (p : ℕ) → last_pass runs < p → count_by (is_pass_at p) runs ≡ 0
count_by-pass_above [] p above = refl
count_by-pass_above (r ∷ rs) p above =
    let mark : Bool → ℕ = λ b. cond b 1 0 in
    let rest : count_by (is_pass_at p) rs ≡ 0 = count_by-pass_above rs p (omega arith) in
    let later : (v : Verdict) (k : ℕ) → passed_at v k < p → mark (not (is_fail v) && k == p) ≡ 0 =
    λ v. elim v as (λ v. (k : ℕ) → passed_at v k < p → mark (not (is_fail v) && k == p) ≡ 0) [
      | Pass ↦ (λ k h. grind (arith, nat_tests))
      | Fail ↦ (λ k h. refl)
    ] in
    let here : mark (is_pass_at p r) ≡ 0 = later r.verdict r.position (omega arith) in
    omega (arith, rest, here, count_by-cons (is_pass_at p) r rs)

-- The counts of fails at each position above the floor, with none below it, are those of the live runs
pub fails_are_live : (f : Factors) (n : ℕ) (runs : List Run) (fails : List ℕ) → length fails ≡ n → AreCleared (floor f runs) fails
    → ((p : ℕ) → floor f runs < p → p ≤ n → at fails p ≡ count_by (is_fail_at p) runs)
    → AreCounts n fails (λ (r : Run). is_fail r.verdict) (live f runs)
fails_are_live f n runs fails long cleared above = record {
  long = long;
  each = λ p low high.
      ⊎_elim
      (λ (never : f.pass_in < 1).
      let zero_in : f.pass_in ≡ 0 = omega arith in
      let lives : live f runs ≡ filter (is_fail_above (last_pass runs)) runs = live_no_miss f runs zero_in in
      let floor_is : floor f runs ≡ last_pass runs = floor_no_miss f runs zero_in in
      ⊎_elim
      (λ (over : last_pass runs < p).
      above p (omega arith) high
      ∙ sym (ap (λ (l : List Run). count_by (is_fail_at p) l) lives ∙ count_by-filter_keeps (is_fail_at p) (is_fail_above (last_pass runs)) runs (λ r no_keep. fail_at_above (last_pass runs) p r over no_keep)))
      (λ (under : p ≤ last_pass runs).
      cleared p low (omega arith)
      ∙ sym (ap (λ (l : List Run). count_by (is_fail_at p) l) lives ∙ count_by-filter_none (is_fail_at p) (is_fail_above (last_pass runs)) runs (λ r kept. fail_above_not_at (last_pass runs) p r under kept)))
      (cases_lt (last_pass runs) p))
      (λ (may : 1 ≤ f.pass_in).
      let floor_is : floor f runs ≡ 0 = floor_may_miss f runs may in
      above p (omega arith) high ∙ sym (ap (λ (l : List Run). count_by (is_fail_at p) l) (live_may_miss f runs may)))
      (cases_lt f.pass_in 1);
}

-- and those of passes likewise
pub passes_are_live : (f : Factors) (n : ℕ) (runs : List Run) (passes : List ℕ) → length passes ≡ n → AreCleared (floor f runs) passes
    → ((p : ℕ) → floor f runs < p → p ≤ n → at passes p ≡ count_by (is_pass_at p) runs)
    → AreCounts n passes (λ (r : Run). not (is_fail r.verdict)) (live f runs)
passes_are_live f n runs passes long cleared above = record {
  long = long;
  each = λ p low high.
      ⊎_elim
      (λ (never : f.pass_in < 1).
      let zero_in : f.pass_in ≡ 0 = omega arith in
      let lives : live f runs ≡ filter (is_fail_above (last_pass runs)) runs = live_no_miss f runs zero_in in
      let floor_is : floor f runs ≡ last_pass runs = floor_no_miss f runs zero_in in
      let none : count_by (is_pass_at p) (live f runs) ≡ 0 =
      ap (λ (l : List Run). count_by (is_pass_at p) l) lives ∙ count_by-filter_none (is_pass_at p) (is_fail_above (last_pass runs)) runs (λ r kept. fail_above_no_pass (last_pass runs) p r kept) in
      ⊎_elim
      (λ (over : last_pass runs < p). above p (omega arith) high ∙ (count_by-pass_above runs p over ∙ sym none))
      (λ (under : p ≤ last_pass runs). cleared p low (omega arith) ∙ sym none)
      (cases_lt (last_pass runs) p))
      (λ (may : 1 ≤ f.pass_in).
      let floor_is : floor f runs ≡ 0 = floor_may_miss f runs may in
      above p (omega arith) high ∙ sym (ap (λ (l : List Run). count_by (is_pass_at p) l) (live_may_miss f runs may)))
      (cases_lt f.pass_in 1);
}
