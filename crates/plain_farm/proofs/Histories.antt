-- Laws of legal histories, as the plain program uses them.
use Rattle.std.proofs.Common.{◌≡◌, ℕ, ◌+◌, ◌≤◌, List, length, Contains, Some, ap, ◌∙◌, arith}
use Rattle.flake_rate.specs.Miss.{FitsRate}
use Rattle.weight_exact.specs.Share.{reached}
use Rattle.weight_exact.specs.Weights.{Setup, hypotheses, suspects}
use Rattle.weight_exact.proofs.Shares.{IsReached-from_some}
use Rattle.farm_entry.specs.History.{openings, runs}
use Rattle.farm_laws.specs.Laws.{culprit_of}
use Rattle.farm_entry.specs.Legal.{IsLegal}
use Rattle.farm_entry.specs.Setup.{setup_of}
use Rattle.farm_entry.specs.Standing.{standing}
use Rattle.farm_entry.specs.declared.entry.Entry.{Entry}
use Rattle.weight_exact.specs.declared.limits.TheConstants.{MAX_SUSPECTS, MAX_WIDTH}
use Rattle.farm_entry.specs.declared.limits.TheConstants.{MAX_ENTRIES}
use Rattle.farm_entry.specs.declared.opening.Opening.{Opening}
use Rattle.farm_entry.specs.declared.standing.Standing.TheVariants.{Verifying}
use Rattle.farm_laws.proofs.Bounds.{entries-bounded}
use Rattle.farm_laws.proofs.OpenLimits.{open_within}
use Rattle.farm_laws.proofs.Standings.{culprit-at_bar}
use Rattle.farm_laws.proofs.Beliefs.{hypotheses-of}

-- stated by `farm_laws`

pub few_entries : (H : List Entry) → IsLegal H → length H ≤ MAX_ENTRIES + 1
few_entries = entries-bounded

pub opened_miss : (H : List Entry) (o : Opening) → IsLegal H → Contains (openings H) o → FitsRate o.miss o.rate
opened_miss H o legal opened = (open_within H o legal opened).miss

pub opened_width : (H : List Entry) (o : Opening) → IsLegal H → Contains (openings H) o → (1 ≤ o.width) × (o.width ≤ MAX_WIDTH)
opened_width H o legal opened = (open_within H o legal opened).width

pub named_in_range : (H : List Entry) (o : Opening) (culprit : ℕ) → standing H o ≡ Verifying culprit →
    (1 ≤ culprit) × (culprit ≤ suspects (setup_of o))
named_in_range H o culprit stands =
    let named = culprit-at_bar H o culprit (ap culprit_of stands) in (named.1, named.2)

pub opened_few : (H : List Entry) (o : Opening) → IsLegal H → Contains (openings H) o →
    length o.range.suspects ≤ MAX_SUSPECTS
opened_few H o legal opened = (open_within H o legal opened).range.few

-- the hypothesis at the bar is one of them
pub reached_in_range : (H : List Entry) (o : Opening) (s : Setup) (i : ℕ) → s ≡ setup_of o →
    reached s (runs H o.search) ≡ Some i → i ≤ length o.range.suspects + 1
reached_in_range H o s i same is =
    let at = IsReached-from_some s (runs H o.search) i is in
    let many : hypotheses s ≡ length o.range.suspects + 1 = ap hypotheses same ∙ hypotheses-of o in
    omega (arith, at.last, many)
