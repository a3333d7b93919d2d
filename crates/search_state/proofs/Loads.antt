-- Whether one run more takes a search past its budget, by its load and its floor.
use Rattle.std.proofs.Common.{◌≡◌, ℕ, ◌+◌, ◌<◌, ◌≤◌, ◌==◌, nat_lt, Bool, true, false, ◌&&◌, ◌||◌, List, [], ◌∷◌, ◌++◌, refl, sym, ap, ◌∙◌, arith, ⊎_elim}
use Rattle.std.proofs.lemmas.Bool.{cases_lt}
use Rattle.std.proofs.lemmas.Bool.Decides.{nat_tests}
use Rattle.weight_exact.specs.Load.{floor, is_fail, load, may_miss}
use Rattle.weight_exact.specs.declared.factors.Factors.{Factors}
use Rattle.weight_exact.specs.declared.run.Run.{Run}
use Rattle.weight_exact.specs.declared.run.Verdict.{Verdict}
use Rattle.weight_exact.specs.declared.run.Verdict.TheVariants.{Fail, Pass}
use Rattle.weight_exact.proofs.Floors.{load_push_fail_above, load_push_fail_below, load_push_may_miss, load_push_pass-le}
use Rattle.farm_entry.specs.Setup.{budget_of_search, setup_of}
use Rattle.search_state.specs.SearchView.{SearchView, adds_load, passes_budget}

-- one more passes a budget exactly where it is used up
more-passes : (b l n : ℕ) → l ≤ b → n ≡ l + 1 → nat_lt b n ≡ (l == b)
more-passes b l n within more =
    ⊎_elim
    (λ (below : l < b). (let no : nat_lt b n ≡ false = grind (arith, nat_tests) in
    let other : (l == b) ≡ false = grind (arith, nat_tests) in no ∙ sym other))
    (λ (full : b ≤ l). (let yes : nat_lt b n ≡ true = grind (arith, nat_tests) in
    let same : (l == b) ≡ true = grind (arith, nat_tests) in yes ∙ sym same))
    (cases_lt l b)

none-passes : (b l n : ℕ) → l ≤ b → n ≤ l → nat_lt b n ≡ false
none-passes b l n within less = grind (arith, nat_tests)

-- the test that the load grows, by its parts
abbrev grows : (may fails above : Bool) → Bool
grows may fails above = may || (fails && above)

-- what one run more does to the load, where a broken test never passes
by_verdict : (f : Factors) (runs : List Run) (r : Run) (b : ℕ) (v : Verdict) → r.verdict ≡ v → f.pass_in ≡ 0 →
    load f runs ≤ b →
    nat_lt b (load f (runs ++ r ∷ [])) ≡ (is_fail v && nat_lt (floor f runs) r.position && (load f runs == b))
by_verdict f runs r b Pass is never within =
    none-passes b (load f runs) (load f (runs ++ r ∷ [])) within (load_push_pass-le f runs r never is)
by_verdict f runs r b Fail is never within =
    ⊎_elim
    (λ (above : floor f runs < r.position).
    let yes : nat_lt (floor f runs) r.position ≡ true = grind (arith, nat_tests) in
    more-passes b (load f runs) (load f (runs ++ r ∷ [])) within (load_push_fail_above f runs r is above)
    ∙ ap (λ (t : Bool). t && (load f runs == b)) (sym yes))
    (λ (below : r.position ≤ floor f runs).
    let no : nat_lt (floor f runs) r.position ≡ false = grind (arith, nat_tests) in
    none-passes b (load f runs) (load f (runs ++ r ∷ [])) within (omega (arith, load_push_fail_below f runs r never is below))
    ∙ ap (λ (t : Bool). t && (load f runs == b)) (sym no))
    (cases_lt (floor f runs) r.position)

by_factors : (f : Factors) (runs : List Run) (r : Run) (b : ℕ) → load f runs ≤ b →
    nat_lt b (load f (runs ++ r ∷ []))
    ≡ (grows (may_miss f) (is_fail r.verdict) (nat_lt (floor f runs) r.position) && (load f runs == b))
by_factors f runs r b within =
    let more : Bool = is_fail r.verdict && nat_lt (floor f runs) r.position in
    ⊎_elim
    (λ (never : f.pass_in < 1).
    let no : may_miss f ≡ false = grind (arith, nat_tests) in
    by_verdict f runs r b r.verdict refl (omega arith) within
    ∙ ap (λ (t : Bool). (t || more) && (load f runs == b)) (sym no))
    (λ (may : 1 ≤ f.pass_in).
    let yes : may_miss f ≡ true = grind (arith, nat_tests) in
    more-passes b (load f runs) (load f (runs ++ r ∷ [])) within (load_push_may_miss f runs r may)
    ∙ ap (λ (t : Bool). (t || more) && (load f runs == b)) (sym yes))
    (cases_lt f.pass_in 1)

-- a run passes the budget exactly where it adds to a load that is the budget
pub passes-told : (s : SearchView) (r : Run) (l b : ℕ) → l ≡ load (setup_of s.opening).factors s.runs →
    b ≡ budget_of_search s.opening → l ≤ b → passes_budget s r ≡ (adds_load s r && (l == b))
passes-told s r l b load_is budget_is within =
    let f = (setup_of s.opening).factors in
    ap (λ (n : ℕ). nat_lt n (load f (s.runs ++ r ∷ []))) (sym budget_is)
    ∙ by_factors f s.runs r b (omega (arith, load_is))
    ∙ ap (λ (n : ℕ). adds_load s r && (n == b)) (sym load_is)
