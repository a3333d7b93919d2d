use Rattle.std.proofs.Common.{◌≡◌, true, ◌/◌, ◌∙◌, arith}
use Rattle.std.proofs.lemmas.Bool.{iff_false}
use Rattle.std.proofs.lemmas.Bool.Decides.{nat_tests}
use Rattle.flake_rate.specs.Bar.{bar_numerator, bar_denominator}
use Rattle.flake_rate.specs.Divisor.{gcd}
use Rattle.flake_rate.specs.declared.bar.Bar.{Bar}
use Rattle.flake_rate.specs.Limits.{IsRate, IsBar}
use Rattle.flake_rate.specs.Rate.{rate_numerator, rate_denominator}
use Rattle.weight_exact.specs.Limits.{is_calm}
use Rattle.judge.specs.Words.{words_left}
use Rattle.judge.proofs.Oks.{no_value, was_ok, value_of_ok}
use Rattle.judge.proofs.SearchForms.{lacks_a, lacks_t, lacks_u, lacks_calm, outside_rate, outside_bar, outside_terms, inside_terms, are_terms-true, is_rate-false, is_bar-false, no_calm_in, not_told_in, is_told-false, formed_weights_same}
use Rattle.judge.proofs.search.Terms.parse.Goals.{In_ok-calm, then-calm-eq0-via-then-calm-eq0, then-calm-eq0-via-else-calm-eq0+then-calm-gt-MAX_CALM, then-calm-eq0-via-else-calm-eq0+else-calm-gt-MAX_CALM+then-not-fits}
use Rattle.judge.proofs.search.Terms.parse.Goals as goal

pub returns-in_err-next_number-clause-none : goal.returns-in_err-next_number-clause-none
returns-in_err-next_number-clause-none c =
    rw c.from_residual.ensures (lacks_a c.args.miss.c c.args.miss.d c.in_err-next_number.ensures.none)

pub returns-in_err-rate-clause-none : goal.returns-in_err-rate-clause-none
returns-in_err-rate-clause-none c =
    let outside : ¬ (IsRate c.in_ok-next_number.field-0 c.in_ok-next_number-2.field-0) =
    λ inside. no_value c.of.result c.in_err-rate.ensures.value (c.of.ensures.within.1 inside) in
    rw c.from_residual-in_err-rate.ensures (
    outside_rate c.args.miss.c c.args.miss.d c.in_ok-next_number.ensures.number c.in_ok-next_number-2.ensures.number
    (is_rate-false _ _ outside))

pub returns-in_err-next_number-3-clause-none : goal.returns-in_err-next_number-3-clause-none
returns-in_err-next_number-3-clause-none c =
    rw c.from_residual-in_err-next_number-3.ensures (
    lacks_t c.args.miss.c c.args.miss.d c.in_ok-next_number.ensures.number c.in_ok-next_number-2.ensures.number
    c.in_err-next_number-3.ensures.none)

pub returns-in_err-next_number-4-clause-none : goal.returns-in_err-next_number-4-clause-none
returns-in_err-next_number-4-clause-none c =
    rw c.from_residual-in_err-next_number-4.ensures (
    lacks_u c.args.miss.c c.args.miss.d c.in_ok-next_number.ensures.number c.in_ok-next_number-2.ensures.number
    c.in_ok-next_number-3.ensures.number c.in_err-next_number-4.ensures.none)

pub returns-in_err-bar-clause-none : goal.returns-in_err-bar-clause-none
returns-in_err-bar-clause-none c =
    let outside : ¬ (IsBar c.in_ok-next_number-3.field-0 c.in_ok-next_number-4.field-0) =
    λ inside. no_value c.of-2.result c.in_err-bar.ensures.value (c.of-2.ensures.within.1 inside) in
    rw c.from_residual-in_err-bar.ensures (
    outside_bar c.args.miss.c c.args.miss.d c.in_ok-next_number.ensures.number c.in_ok-next_number-2.ensures.number
    c.in_ok-next_number-3.ensures.number c.in_ok-next_number-4.ensures.number (is_bar-false _ _ outside))

pub returns-in_err-calm-clause-none : goal.returns-in_err-calm-clause-none
returns-in_err-calm-clause-none c =
    rw c.from_residual-in_err-calm.ensures (
    lacks_calm c.args.miss.c c.args.miss.d c.in_ok-next_number.ensures.number c.in_ok-next_number-2.ensures.number
    c.in_ok-next_number-3.ensures.number c.in_ok-next_number-4.ensures.number c.in_err-calm.ensures.none)

-- the rate's numbers are those given, in lowest terms
reduced : (c : In_ok-calm) → (rate_numerator c.in_ok-rate.rate
    ≡ c.in_ok-next_number.field-0 / gcd c.in_ok-next_number.field-0 c.in_ok-next_number-2.field-0) ×
    (rate_denominator c.in_ok-rate.rate ≡ c.in_ok-next_number-2.field-0 / gcd c.in_ok-next_number.field-0
    c.in_ok-next_number-2.field-0)
reduced c = value_of_ok _ c.of.result c.in_ok-rate.rate c.in_ok-rate.ensures.value c.of.ensures.reduced

pub returns-then-calm-eq0-clause-none : goal.returns-then-calm-eq0-clause-none
returns-then-calm-eq0-clause-none c =
    let miss = c.args.miss in
    let a = c.in_ok-next_number.field-0 in
    let b = c.in_ok-next_number-2.field-0 in
    let t = c.in_ok-next_number-3.field-0 in
    let u = c.in_ok-next_number-4.field-0 in
    let calm = c.in_ok-calm.calm in
    let lowest = reduced ((goal.at.returns-then-calm-eq0-clause-none c).In_ok-calm) in
    outside_terms miss.c miss.d c.in_ok-next_number.ensures.number c.in_ok-next_number-2.ensures.number
    c.in_ok-next_number-3.ensures.number c.in_ok-next_number-4.ensures.number c.in_ok-calm.ensures.number (
    elim c.then-calm-eq0.branch [
      | then-calm-eq0-via-then-calm-eq0 w ↦ no_calm_in miss.c miss.d a b t u calm (grind (arith, nat_tests))
      | then-calm-eq0-via-else-calm-eq0+then-calm-gt-MAX_CALM w ↦ no_calm_in miss.c miss.d a b t u calm
          (grind (arith, nat_tests))
      | then-calm-eq0-via-else-calm-eq0+else-calm-gt-MAX_CALM+then-not-fits w ↦ not_told_in miss.c miss.d a b t u
          calm (rw (← lowest.0, ← lowest.1) (is_told-false miss.c miss.d _ _
          (iff_false w.fits.ensures w.if-not-fits.true)))
    ]
    )

pub returns-clause-some : goal.returns-clause-some
returns-clause-some c =
    let miss = c.args.miss in
    let a = c.in_ok-next_number.field-0 in
    let b = c.in_ok-next_number-2.field-0 in
    let t = c.in_ok-next_number-3.field-0 in
    let u = c.in_ok-next_number-4.field-0 in
    let calm = c.in_ok-calm.calm in
    let lowest = reduced ((goal.at.returns-clause-some c).In_ok-calm) in
    let calm_holds : is_calm calm ≡ true = grind (arith, nat_tests) in
    let inside = are_terms-true miss.c miss.d a b t u calm (c.of.ensures.within.0
    (was_ok c.of.result c.in_ok-rate.rate c.in_ok-rate.ensures.value))
    (c.of-2.ensures.within.0 (was_ok c.of-2.result c.in_ok-bar.bar c.in_ok-bar.ensures.value)) calm_holds
    (rw (← lowest.0, ← lowest.1) (c.fits.ensures.0 c.if-not-fits.false)) in
    let given = value_of_ok (λ (bar : Bar). (bar_numerator bar ≡ t) × (bar_denominator bar ≡ u)) c.of-2.result
    c.in_ok-bar.bar c.in_ok-bar.ensures.value c.of-2.ensures.as_given in
    inside_terms miss.c miss.d c.in_ok-next_number.ensures.number c.in_ok-next_number-2.ensures.number
    c.in_ok-next_number-3.ensures.number c.in_ok-next_number-4.ensures.number c.in_ok-calm.ensures.number inside
    ∙ formed_weights_same miss.c miss.d calm (words_left c.next_number-5.new.self) lowest.0 lowest.1 given.0 given.1
