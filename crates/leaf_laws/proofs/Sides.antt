-- What the reruns of a suspect say, by their verdicts and positions.
use Rattle.std.proofs.Common.{◌≡◌, ℕ, zero, suc, ◌+◌, ◌-◌, ◌==◌, ◌<◌, ◌≤◌, ◌⊎◌, inl, inr, Bool, true, false, not, ◌&&◌, ◌||◌, nat_le, List, [], ◌∷◌, count_by, Contains, refl, sym, ap, ◌∙◌, arith, true≢false}
use Rattle.std.specs.List.{list_any}
use Rattle.std.proofs.lemmas.Bool.{false_from_ne_true, or_parts, true_from_ne_false}
use Rattle.std.proofs.lemmas.Bool.Decides.{nat_tests}
use Rattle.farm_rules.specs.Reruns.{enough, is_against, vindicated}
use Rattle.weight_exact.specs.Counts.{is_fail_at, is_pass_at}
use Rattle.weight_exact.specs.Load.{is_fail}
use Rattle.weight_exact.specs.declared.run.Run.{Run}
use Rattle.weight_exact.specs.declared.run.Verdict.{Verdict}
use Rattle.weight_exact.specs.declared.run.Verdict.TheVariants.{Fail, Pass}
use Rattle.leaf_laws.specs.Stands.{SpeaksAgainst}

-- A test that some member passes.

any-here : {X : Type 0} (p : X → Bool) (x : X) (xs : List X) (b : Bool) → p x ≡ b →
    (list_any p xs ≡ true → (y : X) × Contains xs y × (p y ≡ true)) → (b || list_any p xs) ≡ true →
    (y : X) × Contains (x ∷ xs) y × (p y ≡ true)
any-here p x xs true e later h = (x, (zero, omega arith, refl), e)
any-here p x xs false e later h = let y = later h in (y.0, (suc y.1.0, omega (arith, y.1.1), y.1.2), y.2)

any-there : {X : Type 0} (p : X → Bool) (xs : List X) → list_any p xs ≡ true → (y : X) × Contains xs y × (p y ≡ true)
any-there p [] h = absurd (true≢false (sym h))
any-there p (x ∷ xs) h = any-here p x xs (p x) refl (any-there p xs) h

-- no member passes where the test finds none
none-there : {X : Type 0} (p : X → Bool) (xs : List X) → list_any p xs ≡ false → (y : X) → Contains xs y → p y ≡ false
none-there p [] h y there = absurd (omega (arith, there.1))
none-there p (x ∷ xs) h y (zero, below, is) = ap p (sym is) ∙ (or_parts (p x) (list_any p xs) h).0
none-there p (x ∷ xs) h y (suc k, below, is) =
    none-there p xs (or_parts (p x) (list_any p xs) h).1 y (k, omega arith, is)

-- One rerun.

against_as : (v : Verdict) (at c : ℕ) → 1 ≤ c → ((not (is_fail v) && at == c) || (is_fail v && at == (c - 1))) ≡ true →
    ((v ≡ Pass) × (at ≡ c)) ⊎ ((v ≡ Fail) × (at + 1 ≡ c))
against_as Pass at c some h = inl (refl, grind (arith, nat_tests))
against_as Fail at c some h = inr (refl, grind (arith, nat_tests))

as_against : (v : Verdict) (at c : ℕ) → ((v ≡ Pass) × (at ≡ c)) ⊎ ((v ≡ Fail) × (at + 1 ≡ c)) →
    ((not (is_fail v) && at == c) || (is_fail v && at == (c - 1))) ≡ true
as_against Pass at c (inl h) = let same : at ≡ c = h.1 in grind (arith, nat_tests)
as_against Pass at c (inr h) = let b : true ≡ false = cc in absurd (true≢false b)
as_against Fail at c (inl h) = let b : true ≡ false = cc in absurd (true≢false b)
as_against Fail at c (inr h) = let same : at + 1 ≡ c = h.1 in grind (arith, nat_tests)

both_of : (n a b : ℕ) → (nat_le n a && nat_le n b) ≡ true → (n ≤ a) × (n ≤ b)
both_of n a b h = (grind (arith, nat_tests), grind (arith, nat_tests))

of_both : (n a b : ℕ) → n ≤ a → n ≤ b → (nat_le n a && nat_le n b) ≡ true
of_both n a b low high = grind (arith, nat_tests)

lack_if : (n a b : ℕ) (t : Bool) → nat_le n a ≡ t → (t && nat_le n b) ≡ false → (a < n) ⊎ (b < n)
lack_if n a b true e h = inr (grind (arith, nat_tests))
lack_if n a b false e h = inl (grind (arith, nat_tests))

lack_of : (n a b : ℕ) → (nat_le n a && nat_le n b) ≡ false → (a < n) ⊎ (b < n)
lack_of n a b h = lack_if n a b (nat_le n a) refl h

of_lack : (n a b : ℕ) → (a < n) ⊎ (b < n) → (nat_le n a && nat_le n b) ≡ false
of_lack n a b (inl less) = grind (arith, nat_tests)
of_lack n a b (inr less) = grind (arith, nat_tests)

-- All of them.

pub record Spoke (c : ℕ) (rs : List Run) : Type 0 where
  pub rerun : Run
  pub there : Contains rs rerun
  pub against : SpeaksAgainst c rerun

pub vindicated-spoke : (c : ℕ) (rs : List Run) → 1 ≤ c → vindicated c rs ≡ true → Spoke c rs
vindicated-spoke c rs some h =
    let found = any-there (is_against c) rs h in
    record { rerun = found.0; there = found.1; against = against_as found.0.verdict found.0.position c some found.2 }

pub none_vindicated-silent : (c : ℕ) (rs : List Run) → vindicated c rs ≡ false → (r : Run) → Contains rs r →
    SpeaksAgainst c r → ⊥
none_vindicated-silent c rs h r there speaks =
    true≢false (sym (as_against r.verdict r.position c speaks) ∙ none-there (is_against c) rs h r there)

pub spoke-vindicated : (c : ℕ) (rs : List Run) (r : Run) → Contains rs r → SpeaksAgainst c r → vindicated c rs ≡ true
spoke-vindicated c rs r there speaks =
    true_from_ne_false (vindicated c rs) (λ h. none_vindicated-silent c rs h r there speaks)

pub silent-vindicated : (c : ℕ) (rs : List Run) → 1 ≤ c → ((r : Run) → Contains rs r → SpeaksAgainst c r → ⊥) →
    vindicated c rs ≡ false
silent-vindicated c rs some silent =
    false_from_ne_true (vindicated c rs) (λ h. let s = vindicated-spoke c rs some h in silent s.rerun s.there s.against)

-- Enough on each side.

pub enough-counts : (c asked : ℕ) (rs : List Run) → enough c asked rs ≡ true →
    (asked ≤ count_by (is_fail_at c) rs) × (asked ≤ count_by (is_pass_at (c - 1)) rs)
enough-counts c asked rs h = both_of asked (count_by (is_fail_at c) rs) (count_by (is_pass_at (c - 1)) rs) h

pub counts-enough : (c asked : ℕ) (rs : List Run) → asked ≤ count_by (is_fail_at c) rs →
    asked ≤ count_by (is_pass_at (c - 1)) rs →
    enough c asked rs ≡ true
counts-enough c asked rs a b = of_both asked (count_by (is_fail_at c) rs) (count_by (is_pass_at (c - 1)) rs) a b

pub lacking-counts : (c asked : ℕ) (rs : List Run) → enough c asked rs ≡ false →
    (count_by (is_fail_at c) rs < asked) ⊎ (count_by (is_pass_at (c - 1)) rs < asked)
lacking-counts c asked rs h = lack_of asked (count_by (is_fail_at c) rs) (count_by (is_pass_at (c - 1)) rs) h

pub counts-lacking : (c asked : ℕ) (rs : List Run) →
    (count_by (is_fail_at c) rs < asked) ⊎ (count_by (is_pass_at (c - 1)) rs < asked) → enough c asked rs ≡ false
counts-lacking c asked rs lacks = of_lack asked (count_by (is_fail_at c) rs) (count_by (is_pass_at (c - 1)) rs) lacks
