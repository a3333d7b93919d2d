-- The likelihood of a list of runs: one list after another, one run more, and what a run multiplies a hypothesis by.
use Rattle.std.proofs.Common.{◌≡◌, ℕ, ◌*◌, ◌<◌, ◌≤◌, true, false, nat_le, List, [], ◌∷◌, ◌++◌, sym, ap, ◌∙◌, mul_assoc, one-mul, mul-one, le-leb}
use Rattle.std.proofs.lemmas.Bool.{lt-leb}
use Rattle.weight_exact.specs.Factors.{factor}
use Rattle.weight_exact.specs.Weights.{Setup, prior, likelihood, weight}
use Rattle.weight_exact.specs.declared.factors.Factors.{Factors}
use Rattle.weight_exact.specs.declared.run.Run.{Run}
use Rattle.weight_exact.specs.declared.run.Verdict.TheVariants.{Pass, Fail}

-- runs are independent: the likelihood of one list after another is a product
pub likelihood-append : (f : Factors) (i : ℕ) (runs more : List Run) →
    likelihood f i (runs ++ more) ≡ likelihood f i runs * likelihood f i more
likelihood-append f i [] more = sym (one-mul (likelihood f i more))
likelihood-append f i (r ∷ rs) more =
    rw (likelihood-append f i rs more) (sym (mul_assoc (factor f i r) (likelihood f i rs) (likelihood f i more)))

-- one run more multiplies the likelihood by its number
pub likelihood_push : (f : Factors) (i : ℕ) (runs : List Run) (r : Run) →
    likelihood f i (runs ++ r ∷ []) ≡ likelihood f i runs * factor f i r
likelihood_push f i runs r =
    likelihood-append f i runs (r ∷ []) ∙ ap (λ n. likelihood f i runs * n) (mul-one (factor f i r))

-- one run more multiplies each weight by its number
pub weight_push : (s : Setup) (runs : List Run) (r : Run) (i : ℕ) →
    weight s (runs ++ r ∷ []) i ≡ weight s runs i * factor s.factors i r
weight_push s runs r i =
    rw (likelihood_push s.factors i runs r)
    (sym (mul_assoc (prior s i) (likelihood s.factors i runs) (factor s.factors i r)))

-- and one above its position, whose culprit is out, by the number of a fail outside
pub factor_fail_out : (f : Factors) (i : ℕ) (r : Run) → r.verdict ≡ Fail → r.position < i → factor f i r ≡ f.fail_out
factor_fail_out f i r is above = let test : nat_le i r.position ≡ false = lt-leb i r.position above in rw (is, test)

-- a pass likewise
pub factor_pass_in : (f : Factors) (i : ℕ) (r : Run) → r.verdict ≡ Pass → i ≤ r.position → factor f i r ≡ f.pass_in
factor_pass_in f i r is within = let test : nat_le i r.position ≡ true = le-leb i r.position within in rw (is, test)

pub factor_pass_out : (f : Factors) (i : ℕ) (r : Run) → r.verdict ≡ Pass → r.position < i → factor f i r ≡ f.pass_out
factor_pass_out f i r is above = let test : nat_le i r.position ≡ false = lt-leb i r.position above in rw (is, test)
