-- One run more: the counts that stand for a list of runs with it at the end.
use Rattle.std.proofs.Common.{◌≡◌, ◌≢◌, ℕ, ◌+◌, ◌-◌, ◌<◌, ◌≤◌, inl, inr, Bool, true, false, cond, not, ◌&&◌, ◌==◌, if◌then◌else◌, List, [], ◌∷◌, ◌++◌, length, count_by, set, refl, sym, ap, ◌∙◌, arith, ⊎_elim, ◌⊎◌}
use Rattle.std.proofs.lemmas.Bool.{cases_eq, cases_Bool}
use Rattle.std.proofs.lemmas.Bool.Decides.{nat_tests}
use Rattle.std.proofs.lemmas.List.Elements.{All-cons, All-nil, All-head, All-tail}
use Rattle.weight_exact.specs.Weights.{Setup, hypotheses, AreInRange}
use Rattle.weight_exact.specs.Load.{is_fail, floor, load}
use Rattle.weight_exact.specs.declared.factors.Factors.{Factors}
use Rattle.weight_exact.specs.declared.run.Run.{Run}
use Rattle.weight_exact.specs.declared.run.Verdict.{Verdict}
use Rattle.weight_exact.specs.declared.run.Verdict.TheVariants.{Pass, Fail}
use Rattle.weight_exact.proofs.Floors.{floor_push_pass, floor_push_fail, floor_may_miss, load_push_fail_above, load_push_may_miss, load_push_fail_below, load_push_pass_below}
use Rattle.posterior.specs.Kept.{Kept, at}
use Rattle.weight_exact.specs.Counts.{is_fail_at, is_pass_at}
use Rattle.posterior.proofs.CountLemmas.{count_by-cons}
use Rattle.posterior.proofs.Counting.{at-set_other, at-set_same}
use Rattle.posterior.proofs.Stands.{Matches}

-- one run more in a count
count_by-push : (test : Run → Bool) (runs : List Run) (r : Run) → count_by test (runs ++ r ∷ []) ≡ count_by test runs + cond (test r) 1 0
count_by-push test [] r = omega (arith, count_by-cons test r [])
count_by-push test (x ∷ xs) r = omega (arith, count_by-cons test x xs, count_by-cons test x (xs ++ r ∷ []), count_by-push test xs r)

-- a run that a test lets pass, and one that it doesn't
count_by-push_yes : (test : Run → Bool) (runs : List Run) (r : Run) → test r ≡ true → count_by test (runs ++ r ∷ []) ≡ count_by test runs + 1
count_by-push_yes test runs r holds =
    let mark : Bool → ℕ = λ b. cond b 1 0 in
    let here : mark (test r) ≡ 1 = ap mark holds in
    omega (arith, count_by-push test runs r)

count_by-push_no : (test : Run → Bool) (runs : List Run) (r : Run) → test r ≡ false → count_by test (runs ++ r ∷ []) ≡ count_by test runs
count_by-push_no test runs r fails =
    let mark : Bool → ℕ = λ b. cond b 1 0 in
    let here : mark (test r) ≡ 0 = ap mark fails in
    omega (arith, count_by-push test runs r)

-- a run at another position is none at this one
other_fail : (p : ℕ) (r : Run) → r.position ≢ p → is_fail_at p r ≡ false
other_fail p r apart = grind (arith, nat_tests)

other_pass : (p : ℕ) (r : Run) → r.position ≢ p → is_pass_at p r ≡ false
other_pass p r apart = grind (arith, nat_tests)

-- a run in range at the end of runs in range
pub in_range_push : (s : Setup) (runs : List Run) (r : Run) → AreInRange s runs → 1 ≤ r.position → r.position < hypotheses s → AreInRange s (runs ++ r ∷ [])
in_range_push s [] r all low high =
    let P : Run → Type 0 = λ r. (1 ≤ r.position) × (r.position < hypotheses s) in
    All-cons P r [] (low, high) (All-nil P)
in_range_push s (x ∷ xs) r all low high =
    let P : Run → Type 0 = λ r. (1 ≤ r.position) × (r.position < hypotheses s) in
    All-cons P x (xs ++ r ∷ []) (All-head P x xs all) (in_range_push s xs r (All-tail P x xs all) low high)

-- the floor with a run at or below it is the same
floor_push_below : (f : Factors) (runs : List Run) (r : Run) → f.pass_in ≡ 0 → r.position ≤ floor f runs → floor f (runs ++ r ∷ []) ≡ floor f runs
floor_push_below f runs r never below =
    let cases : (v : Verdict) → r.verdict ≡ v → floor f (runs ++ r ∷ []) ≡ floor f runs =
    λ v. elim v as (λ v. r.verdict ≡ v → floor f (runs ++ r ∷ []) ≡ floor f runs) [
      | Pass ↦ (λ is. omega (arith, floor_push_pass f runs r never is))
      | Fail ↦ (λ is. floor_push_fail f runs r is)
    ] in
    cases r.verdict refl

-- a run at or below the floor changes nothing that is kept
pub matches_below : (k : Kept) (runs : List Run) (r : Run) → k.setup.factors.pass_in ≡ 0 → 1 ≤ r.position → r.position < hypotheses k.setup → r.position ≤ k.floor → Matches k runs → Matches k (runs ++ r ∷ [])
matches_below k runs r never low high below m = record {
  in_range = in_range_push k.setup runs r m.in_range low high;
  floor_is = omega (arith, m.floor_is, floor_push_below k.setup.factors runs r never (omega (arith, m.floor_is)));
  fails_are = λ p above last. m.fails_are p above last ∙ sym (count_by-push_no (is_fail_at p) runs r (other_fail p r (λ e. (let h : r.position ≡ p = e in omega arith))));
  passes_are = λ p above last. m.passes_are p above last ∙ sym (count_by-push_no (is_pass_at p) runs r (other_pass p r (λ e. (let h : r.position ≡ p = e in omega arith))));
}

-- a pass above the floor raises it, where a broken test never passes
pub matches_raised : (k : Kept) (runs : List Run) (r : Run) (load' : ℕ) (fails' passes' sums' : List ℕ) → k.setup.factors.pass_in ≡ 0 → r.verdict ≡ Pass → k.floor < r.position → r.position < hypotheses k.setup
    → ((p : ℕ) → r.position < p → at fails' p ≡ at k.fails p) → ((p : ℕ) → r.position < p → at passes' p ≡ at k.passes p) → Matches k runs
    → Matches (record { setup = k.setup; floor = r.position; load = load'; fails = fails'; passes = passes'; sums = sums' }) (runs ++ r ∷ [])
matches_raised k runs r load' fails' passes' sums' never is above high fails_same passes_same m = record {
  in_range = in_range_push k.setup runs r m.in_range (omega arith) high;
  floor_is = omega (arith, m.floor_is, floor_push_pass k.setup.factors runs r never is);
  fails_are = λ p over last.
      fails_same p over ∙ (m.fails_are p (omega arith) last ∙ sym (count_by-push_no (is_fail_at p) runs r (other_fail p r (λ e. (let h : r.position ≡ p = e in omega arith)))));
  passes_are = λ p over last.
      passes_same p over ∙ (m.passes_are p (omega arith) last ∙ sym (count_by-push_no (is_pass_at p) runs r (other_pass p r (λ e. (let h : r.position ≡ p = e in omega arith)))));
}

-- the floor with a run above it that clears nobody is the same
floor_push_above : (f : Factors) (runs : List Run) (r : Run) → (1 ≤ f.pass_in) ⊎ (r.verdict ≡ Fail) → floor f (runs ++ r ∷ []) ≡ floor f runs
floor_push_above f runs r (inl may) = floor_may_miss f (runs ++ r ∷ []) may ∙ sym (floor_may_miss f runs may)
floor_push_above f runs r (inr is) = floor_push_fail f runs r is

-- tests of positions
same_position : (p : ℕ) → (p == p) ≡ true
same_position p = grind (arith, nat_tests)

other_position : (p q : ℕ) → (p ≡ q → ⊥) → (p == q) ≡ false
other_position p q apart = grind (arith, nat_tests)

-- the counts of one kind after a run: one more at its position if it is of that kind, else as before
counts_push : (test : Run → Bool) (runs : List Run) (r : Run) (xs : List ℕ) (p : ℕ) → 1 ≤ r.position → r.position ≤ length xs → 1 ≤ p
    → at xs p ≡ count_by (λ (x : Run). test x && x.position == p) runs
    → at (if test r then set xs (r.position - 1) (at xs r.position + 1) else xs) p ≡ count_by (λ (x : Run). test x && x.position == p) (runs ++ r ∷ [])
counts_push test runs r xs p low high first before =
    let t : Run → Bool = λ x. test x && x.position == p in
    ⊎_elim
    (λ (kind : test r ≡ true).
    ⊎_elim
    (λ (here : p ≡ r.position).
    let yes : t r ≡ true = rw (kind, here) (same_position r.position) in
    let now : at (set xs (r.position - 1) (at xs r.position + 1)) r.position ≡ at xs r.position + 1 = at-set_same xs r.position (at xs r.position + 1) low high in
    rw kind (ap (at (set xs (r.position - 1) (at xs r.position + 1))) here ∙ (now ∙ (ap (λ q. at xs q + 1) (sym here) ∙ (ap (λ n. n + 1) before ∙ sym (count_by-push_yes t runs r yes))))))
    (λ (apart : p ≢ r.position).
    let none : t r ≡ false = rw kind (other_position r.position p (λ e. apart (sym e))) in
    rw kind (at-set_other xs r.position (at xs r.position + 1) p low first apart ∙ (before ∙ sym (count_by-push_no t runs r none))))
    (cases_eq p r.position))
    (λ (other : test r ≡ false).
    let none : t r ≡ false = rw other in
    rw other (before ∙ sym (count_by-push_no t runs r none)))
    (cases_Bool (test r))

-- a run above the floor that clears nobody is counted at its position
pub matches_counted : (k : Kept) (runs : List Run) (r : Run) (load' : ℕ) (sums' : List ℕ) → (1 ≤ k.setup.factors.pass_in) ⊎ (r.verdict ≡ Fail) → k.floor < r.position → r.position < hypotheses k.setup
    → length k.fails + 1 ≡ hypotheses k.setup → length k.passes + 1 ≡ hypotheses k.setup → Matches k runs
    → Matches (record {
      setup = k.setup;
      floor = k.floor;
      load = load';
      fails = if is_fail r.verdict then set k.fails (r.position - 1) (at k.fails r.position + 1) else k.fails;
      passes = if not (is_fail r.verdict) then set k.passes (r.position - 1) (at k.passes r.position + 1) else k.passes;
      sums = sums';
    }) (runs ++ r ∷ [])
matches_counted k runs r load' sums' live above high as_many also m = record {
  in_range = in_range_push k.setup runs r m.in_range (omega arith) high;
  floor_is = m.floor_is ∙ sym (floor_push_above k.setup.factors runs r live);
  fails_are = λ p over last. counts_push (λ (x : Run). is_fail x.verdict) runs r k.fails p (omega arith) (omega arith) (omega arith) (m.fails_are p over last);
  passes_are = λ p over last. counts_push (λ (x : Run). not (is_fail x.verdict)) runs r k.passes p (omega arith) (omega arith) (omega arith) (m.passes_are p over last);
}

-- the load with one run more: one more where the run still tells hypotheses apart
pub load_push_above : (f : Factors) (runs : List Run) (r : Run) → (1 ≤ f.pass_in) ⊎ (r.verdict ≡ Fail) → floor f runs < r.position → load f (runs ++ r ∷ []) ≡ load f runs + 1
load_push_above f runs r (inl may) above = load_push_may_miss f runs r may
load_push_above f runs r (inr is) above = load_push_fail_above f runs r is above

-- and no more where it doesn't
pub load_push_below : (f : Factors) (runs : List Run) (r : Run) → f.pass_in ≡ 0 → r.position ≤ floor f runs → load f (runs ++ r ∷ []) ≡ load f runs
load_push_below f runs r never below =
    let cases : (v : Verdict) → r.verdict ≡ v → load f (runs ++ r ∷ []) ≡ load f runs =
    λ v. elim v as (λ v. r.verdict ≡ v → load f (runs ++ r ∷ []) ≡ load f runs) [
      | Pass ↦ (λ is. load_push_pass_below f runs r never is below)
      | Fail ↦ (λ is. load_push_fail_below f runs r never is below)
    ] in
    cases r.verdict refl
