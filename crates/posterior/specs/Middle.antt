-- The hypothesis at the bar, and sums in which the middle of the total can be looked for.
use Rattle.std.specs.Prelude.{◌≡◌, ℕ, ◌+◌, ◌*◌, ◌^◌, ◌<◌, ◌≤◌, List, length, Option}
use Rattle.flake_rate.specs.Bar.{bar_numerator, bar_denominator}
use Rattle.flake_rate.specs.declared.bar.Bar.{Bar}
use Rattle.weight_exact.specs.Cumulative.{AreRising}
use Rattle.weight_exact.specs.Share.{last_to, is_at_bar}
use Rattle.weight_exact.specs.declared.limits.TheConstants.{BASIS_POINTS, MAX_SUSPECTS}
use Rattle.posterior.specs.Kept.{at}

-- the last of the sums, the total
abbrev pub last_of : List ℕ → ℕ
last_of sums = at sums (length sums)

-- the hypothesis whose weight is at the bar of the last sum, if one is
abbrev pub reaching : Bar → (ℕ → ℕ) → List ℕ → Option ℕ
reaching bar w sums = last_to (λ i. is_at_bar (bar_numerator bar) (bar_denominator bar) (last_of sums) (w i)) (length sums)

-- rising sums that are 0 up to a floor and not at their end, with room for basis points
pub record HasMiddle (floor : ℕ) (sums : List ℕ) : Type 0 where
  pub low : floor < length sums
  pub few : length sums ≤ MAX_SUSPECTS + 1
  pub none : (i : ℕ) → 1 ≤ i → i ≤ floor → at sums i ≡ 0
  pub rising : AreRising sums
  pub some : 1 ≤ last_of sums
  pub room : last_of sums * BASIS_POINTS < 2 ^ 128
