-- Where a search stands in a history.
use Rattle.std.specs.Prelude.{ℕ, ◌-◌, ◌==◌, nat_lt, Bool, true, false, ◌&&◌, ◌||◌, List, count_by, if◌then◌else◌, Option, Some, None}
use Rattle.threshold_pick.specs.HiddenBlocks.{is_hidden}
use Rattle.threshold_pick.specs.Open.{is_skipped}
use Rattle.weight_exact.specs.Counts.{is_fail_at, is_pass_at}
use Rattle.weight_exact.specs.Share.{reached}
use Rattle.weight_exact.specs.Weights.{hypotheses}
use Rattle.weight_exact.specs.declared.run.Run.{Run}
use Rattle.farm_rules.specs.Reruns.{Outcome, confirmed, outcome, verifying, vindicating}
use Rattle.farm_types.specs.declared.commit_id.CommitId.{CommitId}
use Rattle.farm_entry.specs.History.{reruns, runs, skipped, was_cancelled, went_over}
use Rattle.farm_entry.specs.Setup.{commit_of, setup_of}
use Rattle.farm_entry.specs.declared.entry.Entry.{Entry}
use Rattle.farm_entry.specs.declared.opening.Opening.{Opening}
use Rattle.farm_entry.specs.declared.standing.Standing.{Standing}
use Rattle.farm_entry.specs.declared.standing.Standing.TheVariants.{Searching, Verifying, Confirmed, Vindicated, NoCulprit, Inconclusive, Cancelled}

-- whether a side lacks reruns that can't be made any more, as its position was skipped: fails at the culprit, or passes
-- at its parent
abbrev pub lacks : (culprit asked : ℕ) → (skipped : List ℕ) → List Run → Bool
lacks culprit asked skipped reruns =
    (is_skipped skipped culprit && nat_lt (count_by (is_fail_at culprit) reruns) asked)
    || (is_skipped skipped (culprit - 1) && nat_lt (count_by (is_pass_at (culprit - 1)) reruns) asked)

-- what the reruns of a named suspect come to. A side may lack reruns that can't be made any more
abbrev pub standing_of_outcome : (culprit : ℕ) → (lacking : Bool) → Outcome → Standing
standing_of_outcome culprit lacking verifying = if lacking then Inconclusive else Verifying culprit
standing_of_outcome culprit lacking confirmed = Confirmed culprit
standing_of_outcome culprit lacking vindicating = Vindicated culprit

-- what a search comes to in which no hypothesis is at the bar: it goes on, unless hypotheses that no run can tell apart
-- any more are at the bar together
abbrev pub standing_of_hidden : (hidden : Bool) → Standing
standing_of_hidden hidden = if hidden then Inconclusive else Searching

-- what the hypothesis at the bar comes to: the last one says that there is no culprit, the others name a suspect
abbrev pub standing_of_reached : Opening → List Run → (skipped : List ℕ) → List Run → Option ℕ → Standing
standing_of_reached o counted skipped again None = standing_of_hidden (is_hidden (setup_of o) counted skipped)
standing_of_reached o counted skipped again (Some i) =
    if i == hypotheses (setup_of o) then NoCulprit
    else standing_of_outcome i (lacks i o.reruns skipped again) (outcome i o.reruns again)

-- the hypothesis of a search that is at the bar: its counted runs have brought it there, or its prior weight alone
abbrev pub at_bar : List Entry → Opening → Option ℕ
at_bar H o = reached (setup_of o) (runs H o.search)

-- where a search stands, by the first case that fits: it was cancelled, it went over its budget, or what its belief
-- says
abbrev pub standing : List Entry → Opening → Standing
standing H o =
    if was_cancelled H o.search then Cancelled
    else (if went_over H o.search then Inconclusive
    else standing_of_reached o (runs H o.search) (skipped H o.search) (reruns H o.search) (at_bar H o))

abbrev pub is_searching : Standing → Bool
is_searching Searching = true
is_searching _ = false

abbrev pub is_verifying : Standing → Bool
is_verifying (Verifying culprit) = true
is_verifying _ = false

abbrev pub is_confirmed : Standing → Bool
is_confirmed (Confirmed culprit) = true
is_confirmed _ = false

-- whether a search goes on
abbrev pub is_active : Standing → Bool
is_active Searching = true
is_active (Verifying culprit) = true
is_active _ = false

-- the commit of the suspect that a standing names, if it names one
abbrev pub named_commit : Opening → Standing → Option CommitId
named_commit o (Verifying culprit) = Some (commit_of o culprit)
named_commit o (Confirmed culprit) = Some (commit_of o culprit)
named_commit o (Vindicated culprit) = Some (commit_of o culprit)
named_commit o _ = None
