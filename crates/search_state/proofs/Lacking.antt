-- Sides of a verification that lack reruns which can't be made any more, as their positions were skipped.
use Rattle.std.proofs.Common.{◌≡◌, ℕ, ◌+◌, ◌-◌, ◌≤◌, nat_lt, Bool, true, false, true≢false, ◌&&◌, ◌||◌, cond, if◌then◌else◌, List, [], ◌∷◌, ◌++◌, count_by, refl, sym, ap, ◌∙◌, arith}
use Rattle.std.proofs.lemmas.Bool.{or_parts}
use Rattle.std.proofs.lemmas.Bool.Decides.{nat_tests}
use Rattle.std.proofs.lemmas.List.Sums.{sum_by-append}
use Rattle.threshold_pick.specs.Open.{is_skipped}
use Rattle.weight_exact.specs.Counts.{is_fail_at, is_pass_at}
use Rattle.weight_exact.specs.declared.run.Run.{Run}
use Rattle.farm_rules.specs.Reruns.{confirmed, is_verifying, outcome, reruns_at, verifying, vindicated, vindicating}
use Rattle.farm_rules.proofs.Rulings.{fails-not_vindicated, passes-not_vindicated}
use Rattle.farm_entry.specs.Standing.{lacks}
use Rattle.search_state.specs.Begun.{lacks_by}

neither : (a b : Bool) → a ≡ false → b ≡ false → (a || b) ≡ false
neither true b first second = first
neither false b first second = second

-- What one rerun more changes.

fewer-lack : (closed : Bool) (n more asked : ℕ) → n ≤ more → (closed && nat_lt n asked) ≡ false →
    (closed && nat_lt more asked) ≡ false
fewer-lack true n more asked le none = grind (arith, nat_tests)
fewer-lack false n more asked le none = refl

count_by-grows : (t : Run → Bool) (rs : List Run) (r : Run) → count_by t rs ≤ count_by t (rs ++ r ∷ [])
count_by-grows t rs r = omega (arith, sum_by-append (λ (x : Run). cond (t x) 1 0) rs (r ∷ []))

-- where no side lacks reruns, none does with one more
pub lacks-more : (c asked : ℕ) (skipped : List ℕ) (again : List Run) (r : Run) → lacks c asked skipped again ≡ false →
    lacks c asked skipped (again ++ r ∷ []) ≡ false
lacks-more c asked skipped again r none =
    let more : List Run = again ++ r ∷ [] in
    let both =
    or_parts (is_skipped skipped c && nat_lt (count_by (is_fail_at c) again) asked)
    (is_skipped skipped (c - 1) && nat_lt (count_by (is_pass_at (c - 1)) again) asked) none in
    neither (is_skipped skipped c && nat_lt (count_by (is_fail_at c) more) asked)
    (is_skipped skipped (c - 1) && nat_lt (count_by (is_pass_at (c - 1)) more) asked)
    (fewer-lack (is_skipped skipped c) (count_by (is_fail_at c) again) (count_by (is_fail_at c) more) asked
    (count_by-grows (is_fail_at c) again r) both.0)
    (fewer-lack (is_skipped skipped (c - 1)) (count_by (is_pass_at (c - 1)) again) (count_by (is_pass_at (c - 1)) more)
    asked (count_by-grows (is_pass_at (c - 1)) again r) both.1)

-- What is kept of the reruns says it.

unvindicated : (against enough : Bool) → (if against then vindicating else (if enough then confirmed else verifying)) ≡ verifying →
    against ≡ false
unvindicated true enough is = absurd (true≢false (sym (ap is_verifying is)))
unvindicated false enough is = refl

-- while reruns go on all at the culprit failed, and all at its parent passed
pub lacks-kept : (c asked : ℕ) (skipped : List ℕ) (again : List Run) (at_culprit at_parent : ℕ) →
    outcome c asked again ≡ verifying → at_culprit ≡ reruns_at c again → at_parent ≡ reruns_at (c - 1) again →
    lacks_by c asked skipped at_culprit at_parent ≡ lacks c asked skipped again
lacks-kept c asked skipped again at_culprit at_parent going_on here below =
    let none : vindicated c again ≡ false = unvindicated (vindicated c again) _ going_on in
    ap (λ (n : ℕ). lacks_by c asked skipped n at_parent) (here ∙ sym (fails-not_vindicated c again none))
    ∙ ap (λ (n : ℕ). lacks_by c asked skipped (count_by (is_fail_at c) again) n)
    (below ∙ sym (passes-not_vindicated c again none))
