-- What follows of the belief of a search that has no reruns.
use Rattle.std.proofs.Common.{◌≡◌, ℕ, ◌+◌, ◌≤◌, Bool, List, [], Option, Some, None, sym, ap, subst, ◌∙◌, arith}
use Rattle.flake_rate.specs.Bar.{bar_denominator, bar_numerator}
use Rattle.flake_rate.specs.declared.bar.Bar.{Bar}
use Rattle.threshold_pick.specs.HiddenBlocks.{is_hidden}
use Rattle.threshold_pick.proofs.HiddenBlocks.{is_hidden-nothing_skipped}
use Rattle.weight_exact.specs.Share.{IsReached, reached}
use Rattle.weight_exact.specs.Weights.{AreInRange, Setup, hypotheses, total}
use Rattle.weight_exact.specs.declared.limits.TheConstants.{MAX_SUSPECTS}
use Rattle.weight_exact.specs.declared.run.Run.{Run}
use Rattle.weight_exact.proofs.Shares.{IsReached-from_some, total_positive}
use Rattle.posterior.specs.Kept.{Kept}
use Rattle.threshold_pick.specs.Blocks.{CanHalve, is_hidden_in}
use Rattle.threshold_pick.specs.CanPick.{CanPick}
use Rattle.threshold_pick.specs.Picks.{open_pick_in}
use Rattle.farm_rules.specs.Verification.{Verification}
use Rattle.farm_entry.specs.Setup.{setup_of}
use Rattle.farm_entry.specs.Standing.{standing_of_hidden}
use Rattle.farm_entry.specs.declared.opening.Opening.{Opening}
use Rattle.farm_entry.specs.declared.standing.Standing.{Standing}
use Rattle.farm_entry.specs.declared.standing.Standing.TheVariants.{Searching, Verifying}
use Rattle.farm_laws.specs.Openings.{OpenWithin}
use Rattle.farm_laws.proofs.OpenLimits.{setup_facts}
use Rattle.farm_laws.proofs.Beliefs.{IsBeliefOf, belief-can_halve, belief-can_pick, belief-hidden, hypotheses-of}
use Rattle.search_state.specs.Begun.{IsBegunBy, IsBelieved, begun_standing}
use Rattle.search_state.specs.SearchInside.{IsVerificationOf}
use Rattle.search_state.proofs.Flags.{searching-none, verified-first}

pub belief-of : (o : Opening) (told : List Run) (k : Kept) (bar : Bar) (suspects : ℕ) →
    IsBelieved o told k bar suspects → IsBeliefOf o told k
belief-of o told k bar suspects b = record { within = b.within; setup = b.setup; stands = b.stands }

-- the hypothesis at the bar, as the belief answers it
pub reached-of : (o : Opening) (told : List Run) (k : Kept) (bar : Bar) (suspects : ℕ) (n : Option ℕ) →
    IsBelieved o told k bar suspects → n ≡ reached k.setup told → n ≡ reached (setup_of o) told
reached-of o told k bar suspects n b is = is ∙ ap (λ (s : Setup). reached s told) b.setup

-- No hypothesis at the bar.

pub believed-can_halve : (o : Opening) (told : List Run) (k : Kept) (bar : Bar) (suspects : ℕ) →
    IsBelieved o told k bar suspects → CanHalve k.sums
believed-can_halve o told k bar suspects b = belief-can_halve o told k (belief-of o told k bar suspects b)

-- the search goes on where nothing was skipped
pub nothing-hidden : (o : Opening) (told : List Run) (k : Kept) (bar : Bar) (suspects : ℕ) (skipped : List ℕ) →
    IsBelieved o told k bar suspects → reached (setup_of o) told ≡ None → skipped ≡ [] →
    Searching ≡ standing_of_hidden (is_hidden (setup_of o) told skipped)
nothing-hidden o told k bar suspects skipped b none nothing =
    let facts = setup_facts o b.within in
    let some : 1 ≤ total (setup_of o) told =
    total_positive (setup_of o) told facts.calm facts.fail_out facts.pass_out
    (subst (λ (s : Setup). AreInRange s told) b.setup b.stands.in_range) in
    sym
    (ap (λ (xs : List ℕ). standing_of_hidden (is_hidden (setup_of o) told xs)) nothing
    ∙ ap standing_of_hidden (is_hidden-nothing_skipped (setup_of o) told some none))

-- and else by the block round the middle
pub block-standing : (o : Opening) (told : List Run) (k : Kept) (bar : Bar) (suspects : ℕ) (skipped : List ℕ)
    (b : Bool) → IsBelieved o told k bar suspects →
    is_hidden_in (bar_numerator bar) (bar_denominator bar) k.sums skipped ≡ b →
    standing_of_hidden b ≡ standing_of_hidden (is_hidden (setup_of o) told skipped)
block-standing o told k bar suspects skipped b believed is =
    ap standing_of_hidden
    (sym is
    ∙ ap (λ (x : Bar). is_hidden_in (bar_numerator x) (bar_denominator x) k.sums skipped) believed.bar_is
    ∙ belief-hidden o told k skipped (belief-of o told k bar suspects believed))

-- A hypothesis at the bar.

pub few-suspects : (o : Opening) (suspects : ℕ) → OpenWithin o → suspects + 1 ≡ hypotheses (setup_of o) →
    suspects ≤ MAX_SUSPECTS
few-suspects o suspects within many = omega (arith, many, hypotheses-of o, within.range.few)

pub named-within : (o : Opening) (told : List Run) (k : Kept) (bar : Bar) (suspects hypothesis : ℕ) →
    IsBelieved o told k bar suspects → Some hypothesis ≡ reached k.setup told →
    (1 ≤ hypothesis) × (hypothesis ≤ suspects + 1)
named-within o told k bar suspects hypothesis b is =
    let at : IsReached (setup_of o) told hypothesis =
    IsReached-from_some (setup_of o) told hypothesis
    (sym (reached-of o told k bar suspects (Some hypothesis) b is)) in
    (at.first, omega (arith, at.last, b.suspects_are))

-- What follows of where it stands.

pub begun-can_pick : (o : Opening) (told : List Run) (k : Kept) (bar : Bar) (suspects : ℕ) (skipped : List ℕ)
    (st : Standing) → IsBelieved o told k bar suspects → st ≡ begun_standing o told skipped → st ≡ Searching →
    CanPick k.floor k.sums
begun-can_pick o told k bar suspects skipped st b stands searching =
    belief-can_pick o told k (belief-of o told k bar suspects b)
    (searching-none o told skipped [] (reached (setup_of o) told) (sym stands ∙ searching))

pub begun-named : (o : Opening) (told : List Run) (skipped : List ℕ) (st : Standing) →
    st ≡ begun_standing o told skipped → (c : ℕ) → st ≡ Verifying c → 1 ≤ c
begun-named o told skipped st stands c names = verified-first o skipped [] told c (sym stands ∙ names)

pub begun-by : (o : Opening) (told : List Run) (skipped : List ℕ) (k : Kept) (width asked : ℕ) (st : Standing)
    (first : Option ℕ) (v : Verification) → width ≡ o.width → asked ≡ o.reruns → st ≡ begun_standing o told skipped →
    (st ≡ Searching → first ≡ open_pick_in k.sums k.floor skipped 1 width) →
    ((c : ℕ) → st ≡ Verifying c → IsVerificationOf v c asked []) → IsBegunBy o told skipped k st first v
begun-by o told skipped k width asked st first v width_is asked_is stands planned verified = record {
  stands = stands;
  planned = λ searching. planned searching ∙ ap (λ (n : ℕ). open_pick_in k.sums k.floor skipped 1 n) width_is;
  verified = λ c names. subst (λ (n : ℕ). IsVerificationOf v c n []) asked_is (verified c names);
}
