-- Each search of a legal history was opened within the limits, so its inference has what the laws of weights ask for.
use Rattle.std.proofs.Common.{◌≡◌, ℕ, ◌*◌, ◌-◌, ◌<◌, ◌≤◌, List, [], ◌∷◌, ◌++◌, length, map, slice_index, All, Contains, arith, length-append}
use Rattle.std.proofs.lemmas.List.{get_or_push, length-map}
use Rattle.std.proofs.lemmas.List.Elements.{All-contains}
use Rattle.flake_rate.proofs.Values.{miss-in_limits, rate-in_limits}
use Rattle.suspect_range.proofs.Legal.{IsSuspectRange-from_no_fault}
use Rattle.weight_exact.specs.Weights.{Setup, hypotheses, prior}
use Rattle.weight_exact.proofs.FactorNumbers.{fail_out_positive, pass_out_positive}
use Rattle.farm_entry.specs.History.{opening_in, openings}
use Rattle.farm_entry.specs.Legal.{IsLegal, ask_of}
use Rattle.farm_entry.specs.Setup.{setup_of}
use Rattle.farm_entry.specs.declared.entry.Entry.{Entry}
use Rattle.weight_exact.specs.declared.limits.TheConstants.{MAX_WIDTH}
use Rattle.farm_entry.specs.declared.limits.TheConstants.{MAX_RERUNS}
use Rattle.farm_entry.specs.declared.opening.Opening.{Opening}
use Rattle.farm_laws.specs.Openings.{OpenWithin}
use Rattle.farm_laws.proofs.EntryParts.{each_part, opened-facts}
use Rattle.farm_laws.proofs.Made.{fits_of, is_made, range_of, within_of}
use Rattle.farm_laws.proofs.Numbered.{no_opening}

pub all-open_within : (H : List Entry) → IsLegal H → All (λ (o : Opening). OpenWithin o) (openings H)
all-open_within =
    each_part opening_in (λ (H : List Entry) (o : Opening). OpenWithin o) no_opening
    (λ H e o legal s h. h)
    (λ H e o legal s is.
    let made = is_made (ask_of o) _ o (opened-facts H e.at e.what o is s).made in
    record {
      range = IsSuspectRange-from_no_fault o.range.base o.range.suspects o.range.calm (range_of (ask_of o) o.range made.range).0;
      miss = fits_of (ask_of o) o.rate o.miss made.miss;
      width = within_of MAX_WIDTH o.width o.width _ made.width;
      reruns = within_of MAX_RERUNS o.reruns o.reruns _ made.reruns;
    })

pub open_within : (H : List Entry) (o : Opening) → IsLegal H → Contains (openings H) o → OpenWithin o
open_within H o legal there = All-contains (λ (x : Opening). OpenWithin x) (openings H) o (all-open_within H legal) there

-- what the laws of weights ask for
pub record SetupFacts (s : Setup) : Type 0 where
  pub some : 2 ≤ hypotheses s
  pub calm : 1 ≤ prior s (hypotheses s)
  pub fail_out : 1 ≤ s.factors.fail_out
  pub pass_out : 1 ≤ s.factors.pass_out
  pub above_half : s.bar_denominator < 2 * s.bar_numerator
  pub below_one : s.bar_numerator < s.bar_denominator

last-prior : (weights : List ℕ) (calm : ℕ) → slice_index (weights ++ calm ∷ []) (length (weights ++ calm ∷ []) - 1) ≡ calm
last-prior weights calm =
    get_or_push weights calm 0 (length (weights ++ calm ∷ []) - 1) (omega (arith, length-append weights (calm ∷ [])))

pub setup_facts : (o : Opening) → OpenWithin o → SetupFacts (setup_of o)
setup_facts o h =
    let weights : List ℕ = map (λ suspect. suspect.weight) o.range.suspects in
    let rate = rate-in_limits o.rate in
    let miss = miss-in_limits o.miss in
    let bar = o.bar.in_limits in
    record {
      some = omega (arith, length-append weights (o.range.calm ∷ []), length-map o.range.suspects (λ suspect. suspect.weight), h.range.some);
      calm = omega (arith, last-prior weights o.range.calm, h.range.calm_in.0);
      fail_out = fail_out_positive _ _ _ _ rate miss;
      pass_out = pass_out_positive _ _ _ _ rate miss;
      above_half = bar.1;
      below_one = bar.2;
    }
