-- What a belief that stands for the runs of a search is good for: its plan can be made of it.
use Rattle.std.proofs.Common.{◌≡◌, ℕ, ◌+◌, ◌-◌, ◌*◌, ◌^◌, ◌<◌, ◌≤◌, List, [], ◌∷◌, ◌++◌, None, length, map, All, Contains, sym, ap, subst, ◌∙◌, arith, length-append}
use Rattle.std.proofs.lemmas.List.{length-map}
use Rattle.std.proofs.lemmas.List.Elements.{All-map, All-push}
use Rattle.flake_rate.specs.Bar.{bar_denominator, bar_numerator}
use Rattle.flake_rate.proofs.Values.{miss-in_limits, rate-in_limits}
use Rattle.suspect_range.specs.Range.{IsSuspectRange}
use Rattle.suspect_range.specs.declared.suspect.Suspect.{Suspect}
use Rattle.weight_exact.specs.Limits.{IsWeight}
use Rattle.weight_exact.specs.Load.{floor}
use Rattle.weight_exact.specs.Share.{reached}
use Rattle.weight_exact.specs.Weights.{AreInRange, Setup, cumulative, hypotheses, prior, suspects, total}
use Rattle.weight_exact.specs.declared.limits.TheConstants.{BASIS_POINTS}
use Rattle.weight_exact.specs.declared.run.Run.{Run}
use Rattle.weight_exact.proofs.FactorNumbers.{fail_in_positive, fail_out_positive, pass_out_positive}
use Rattle.weight_exact.proofs.Shares.{total_positive}
use Rattle.threshold_pick.specs.HiddenBlocks.{is_hidden}
use Rattle.threshold_pick.specs.Open.{open_pick}
use Rattle.posterior.specs.Kept.{Kept, at}
use Rattle.posterior.specs.StandsFor.{StandsFor}
use Rattle.threshold_pick.specs.Blocks.{CanHalve, is_hidden_in}
use Rattle.threshold_pick.specs.CanPick.{CanPick}
use Rattle.threshold_pick.specs.Cumulative.{AreCumulative}
use Rattle.threshold_pick.specs.Picks.{open_pick_in}
use Rattle.threshold_pick.specs.Sums.{RiseAbove, whole}
use Rattle.threshold_pick.proofs.Alive.{ArePositive, RiseAbove-cumulative}
use Rattle.threshold_pick.proofs.Blocks.{AreRising-cumulative, is_hidden_in-is_hidden}
use Rattle.threshold_pick.proofs.OpenPlans.{open_pick_in-open_pick}
use Rattle.farm_entry.specs.History.{openings, runs}
use Rattle.farm_entry.specs.Legal.{IsLegal}
use Rattle.farm_entry.specs.Setup.{setup_of}
use Rattle.farm_entry.specs.Standing.{at_bar}
use Rattle.farm_entry.specs.declared.entry.Entry.{Entry}
use Rattle.farm_entry.specs.declared.opening.Opening.{Opening}
use Rattle.farm_laws.proofs.Filters.{All-imp}
use Rattle.farm_laws.specs.Openings.{OpenWithin}
use Rattle.farm_laws.proofs.OpenLimits.{open_within, setup_facts}
use Rattle.farm_laws.proofs.Standings.{some-left}

-- the sums of a belief are those of the runs that it stands for
pub are_cumulative : (k : Kept) (runs : List Run) → StandsFor k runs → AreCumulative k.setup runs k.sums
are_cumulative k runs stands = record {
  one_each = stands.as_many;
  some = subst (λ (n : ℕ). 1 ≤ at k.sums n) (sym stands.as_many) stands.some;
  parts = λ i first last. subst
      (λ (n : ℕ). at k.sums i * total k.setup runs ≡ cumulative k.setup runs i * at k.sums n) (sym stands.as_many)
      (stands.sums_are i first last);
}

-- how many hypotheses a search has
pub hypotheses-of : (o : Opening) → hypotheses (setup_of o) ≡ length o.range.suspects + 1
hypotheses-of o =
    length-append (map (λ (s : Suspect). s.weight) o.range.suspects) (o.range.calm ∷ [])
    ∙ ap (λ n. n + 1) (length-map o.range.suspects (λ (s : Suspect). s.weight))

-- each hypothesis has a prior weight
pub prior_positive : (o : Opening) → IsSuspectRange o.range.base o.range.suspects o.range.calm → (i : ℕ) → 1 ≤ i →
    i ≤ hypotheses (setup_of o) →
    1 ≤ prior (setup_of o) i
prior_positive o range i first last =
    let ws = map (λ (s : Suspect). s.weight) o.range.suspects in
    let each : All IsWeight ws = All-map IsWeight (λ (s : Suspect). s.weight) o.range.suspects range.weights in
    let some : All (λ (n : ℕ). 1 ≤ n) ws = All-imp IsWeight (λ (n : ℕ). 1 ≤ n) ws (λ n h. h.0) each in
    let all : All (λ (n : ℕ). 1 ≤ n) (ws ++ o.range.calm ∷ []) =
    All-push (λ (n : ℕ). 1 ≤ n) ws o.range.calm some range.calm_in.0 in
    all (i - 1) 0 (omega (arith, first, last))

-- the numbers of its runs are positive
pub are_positive : (o : Opening) → ArePositive (setup_of o).factors
are_positive o =
    let rate = rate-in_limits o.rate in
    let miss = miss-in_limits o.miss in
    record {
      fail_in = fail_in_positive _ _ _ _ rate miss;
      fail_out = fail_out_positive _ _ _ _ rate miss;
      pass_out = pass_out_positive _ _ _ _ rate miss;
    }

-- A belief of a search.

-- a belief is that of a search, opened within the limits, after these runs
pub record IsBeliefOf (o : Opening) (told : List Run) (k : Kept) : Type 0 where
  pub within : OpenWithin o
  pub setup : k.setup ≡ setup_of o
  pub stands : StandsFor k told

-- what its sums are
record HasSums (o : Opening) (told : List Run) (k : Kept) : Type 0 where
  total : 1 ≤ total (setup_of o) told
  sums : AreCumulative (setup_of o) told k.sums
  floor_is : k.floor ≡ floor (setup_of o).factors told
  room : whole k.sums * BASIS_POINTS < 2 ^ 128
  many : length k.sums ≡ length o.range.suspects + 1

has_sums : (o : Opening) (told : List Run) (k : Kept) → IsBeliefOf o told k → HasSums o told k
has_sums o told k b =
    let facts = setup_facts o b.within in
    let sums : AreCumulative (setup_of o) told k.sums =
    subst (λ (s : Setup). AreCumulative s told k.sums) b.setup (are_cumulative k told b.stands) in
    record {
      total = total_positive (setup_of o) told facts.calm facts.fail_out facts.pass_out
          (subst (λ (s : Setup). AreInRange s told) b.setup b.stands.in_range);
      sums = sums;
      floor_is = b.stands.floor_is ∙ ap (λ (s : Setup). floor s.factors told) b.setup;
      room = subst (λ (n : ℕ). at k.sums n * BASIS_POINTS < 2 ^ 128) (sym b.stands.as_many) b.stands.fits;
      many = sums.one_each ∙ hypotheses-of o;
    }

-- positions can be picked by it while no hypothesis is at the bar
pub belief-can_pick : (o : Opening) (told : List Run) (k : Kept) → IsBeliefOf o told k →
    reached (setup_of o) told ≡ None → CanPick k.floor k.sums
belief-can_pick o told k b none =
    let has = has_sums o told k b in
    let range = b.within.range in
    let left : floor (setup_of o).factors told < suspects (setup_of o) =
    some-left (setup_of o) told (setup_facts o b.within) none in
    let rises : RiseAbove (floor (setup_of o).factors told) k.sums =
    RiseAbove-cumulative (setup_of o) told k.sums has.sums has.total (prior_positive o range) (are_positive o) in
    record {
      few = omega (arith, has.many, range.few);
      some = omega (arith, has.sums.one_each, has.floor_is, left);
      rising = subst (λ (n : ℕ). RiseAbove n k.sums) (sym has.floor_is) rises;
      room = has.room;
    }

-- the middle of its sums can be looked for
pub belief-can_halve : (o : Opening) (told : List Run) (k : Kept) → IsBeliefOf o told k → CanHalve k.sums
belief-can_halve o told k b =
    let has = has_sums o told k b in
    let range = b.within.range in
    record {
      some = omega (arith, has.many, range.some);
      few = omega (arith, has.many, range.few);
      rising = AreRising-cumulative (setup_of o) told k.sums has.sums has.total;
      room = has.room;
    }

-- what is picked by it is a position of the plan, whatever was skipped
pub belief-picks : (o : Opening) (told : List Run) (k : Kept) (skipped : List ℕ) (j : ℕ) → IsBeliefOf o told k →
    open_pick_in k.sums k.floor skipped j o.width ≡ open_pick (setup_of o) told skipped o.width j
belief-picks o told k skipped j b =
    let has = has_sums o told k b in
    ap (λ (n : ℕ). open_pick_in k.sums n skipped j o.width) has.floor_is
    ∙ open_pick_in-open_pick (setup_of o) told k.sums skipped j o.width has.sums has.total

-- and it says whether the block round the middle is at the bar
pub belief-hidden : (o : Opening) (told : List Run) (k : Kept) (skipped : List ℕ) → IsBeliefOf o told k →
    is_hidden_in (bar_numerator o.bar) (bar_denominator o.bar) k.sums skipped ≡ is_hidden (setup_of o) told skipped
belief-hidden o told k skipped b =
    let has = has_sums o told k b in
    is_hidden_in-is_hidden (setup_of o) told k.sums skipped has.sums has.total

-- The same of a search of a legal history.

pub belief_of : (H : List Entry) (o : Opening) (k : Kept) → IsLegal H → Contains (openings H) o →
    k.setup ≡ setup_of o → StandsFor k (runs H o.search) → IsBeliefOf o (runs H o.search) k
belief_of H o k legal opened same stands =
    record { within = open_within H o legal opened; setup = same; stands = stands }

pub can_pick : (H : List Entry) (o : Opening) (k : Kept) → IsLegal H → Contains (openings H) o → at_bar H o ≡ None →
    k.setup ≡ setup_of o → StandsFor k (runs H o.search) → CanPick k.floor k.sums
can_pick H o k legal opened none same stands =
    belief-can_pick o (runs H o.search) k (belief_of H o k legal opened same stands) none

pub can_halve : (H : List Entry) (o : Opening) (k : Kept) → IsLegal H → Contains (openings H) o →
    k.setup ≡ setup_of o → StandsFor k (runs H o.search) → CanHalve k.sums
can_halve H o k legal opened same stands =
    belief-can_halve o (runs H o.search) k (belief_of H o k legal opened same stands)

pub open_picked : (H : List Entry) (o : Opening) (k : Kept) (skipped : List ℕ) (j : ℕ) → IsLegal H →
    Contains (openings H) o → k.setup ≡ setup_of o → StandsFor k (runs H o.search) →
    open_pick_in k.sums k.floor skipped j o.width ≡ open_pick (setup_of o) (runs H o.search) skipped o.width j
open_picked H o k skipped j legal opened same stands =
    belief-picks o (runs H o.search) k skipped j (belief_of H o k legal opened same stands)

pub hidden-told : (H : List Entry) (o : Opening) (k : Kept) (skipped : List ℕ) → IsLegal H →
    Contains (openings H) o → k.setup ≡ setup_of o → StandsFor k (runs H o.search) →
    is_hidden_in (bar_numerator o.bar) (bar_denominator o.bar) k.sums skipped
    ≡ is_hidden (setup_of o) (runs H o.search) skipped
hidden-told H o k skipped legal opened same stands =
    belief-hidden o (runs H o.search) k skipped (belief_of H o k legal opened same stands)
