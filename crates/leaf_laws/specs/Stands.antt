-- What a history holds of a search that stands so, said by its entries and by Bayes' rule.
use Rattle.std.specs.Prelude.{◌≡◌, ℕ, ◌+◌, ◌-◌, ◌<◌, ◌≤◌, ◌⊎◌, true, false, List, Contains, count_by}
use Rattle.threshold_pick.specs.HiddenBlocks.{IsHidden}
use Rattle.threshold_pick.specs.Open.{is_skipped}
use Rattle.weight_exact.specs.Counts.{is_fail_at, is_pass_at}
use Rattle.weight_exact.specs.Load.{floor}
use Rattle.weight_exact.specs.Share.{IsReached}
use Rattle.weight_exact.specs.Weights.{suspects}
use Rattle.weight_exact.specs.declared.run.Run.{Run}
use Rattle.weight_exact.specs.declared.run.Verdict.TheVariants.{Fail, Pass}
use Rattle.farm_entry.specs.History.{reruns, runs, skipped, was_cancelled, went_over}
use Rattle.farm_entry.specs.Setup.{setup_of}
use Rattle.farm_entry.specs.declared.entry.Entry.{Entry}
use Rattle.farm_entry.specs.declared.opening.Opening.{Opening}

-- a search was neither cancelled nor over its budget
pub record IsBelieved (H : List Entry) (o : Opening) : Type 0 where
  pub uncancelled : was_cancelled H o.search ≡ false
  pub within : went_over H o.search ≡ false

-- a hypothesis has the share of the bar over the counted runs, and the search goes by its belief
pub record IsAtBar (H : List Entry) (o : Opening) (i : ℕ) : Type 0 where
  pub believed : IsBelieved H o
  pub reached : IsReached (setup_of o) (runs H o.search) i

-- the hypothesis is a suspect
pub record IsNamed (H : List Entry) (o : Opening) (suspect : ℕ) : Type 0 where
  pub at_bar : IsAtBar H o suspect
  pub suspects : suspect ≤ suspects (setup_of o)

-- hypotheses that skipped positions alone part are at the bar together
abbrev pub AreHidden : List Entry → Opening → (first last : ℕ) → Type 0
AreHidden H o first last = IsHidden (setup_of o) (runs H o.search) (skipped H o.search) first last

-- no hypothesis is at the bar, and none are together that can't be told apart any more
pub record IsUndecided (H : List Entry) (o : Opening) : Type 0 where
  pub believed : IsBelieved H o
  pub none : (i : ℕ) → ¬ IsReached (setup_of o) (runs H o.search) i
  pub apart : (first last : ℕ) → ¬ AreHidden H o first last

-- a position of a search is open: it is that of a suspect above the floor, and wasn't skipped
pub record IsOpen (H : List Entry) (o : Opening) (position : ℕ) : Type 0 where
  pub above : floor (setup_of o).factors (runs H o.search) < position
  pub within : position ≤ suspects (setup_of o)
  pub kept : is_skipped (skipped H o.search) position ≡ false

-- a rerun speaks against a suspect: it passed with the suspect in its tree, or failed at the tree just below
abbrev pub SpeaksAgainst : (suspect : ℕ) → Run → Type 0
SpeaksAgainst suspect r =
    ((r.verdict ≡ Pass) × (r.position ≡ suspect)) ⊎ ((r.verdict ≡ Fail) × (r.position + 1 ≡ suspect))

-- a rerun spoke against the named suspect
pub record IsSpokenAgainst (H : List Entry) (o : Opening) (suspect : ℕ) : Type 0 where
  pub named : IsNamed H o suspect
  pub rerun : Run
  pub there : Contains (reruns H o.search) rerun
  pub against : SpeaksAgainst suspect rerun

-- none did, and as many failed at it, and passed just below it, as were asked for
pub record IsBorneOut (H : List Entry) (o : Opening) (suspect : ℕ) : Type 0 where
  pub named : IsNamed H o suspect
  pub none_against : (r : Run) → Contains (reruns H o.search) r → ¬ SpeaksAgainst suspect r
  pub failed : o.reruns ≤ count_by (is_fail_at suspect) (reruns H o.search)
  pub passed : o.reruns ≤ count_by (is_pass_at (suspect - 1)) (reruns H o.search)

-- fewer reruns failed at it, or passed just below it, than were asked for, and no more can be made there
abbrev pub CannotBeRerun : List Entry → Opening → (suspect : ℕ) → Type 0
CannotBeRerun H o suspect =
    ((is_skipped (skipped H o.search) suspect ≡ true) × (count_by (is_fail_at suspect) (reruns H o.search) < o.reruns))
    ⊎ ((is_skipped (skipped H o.search) (suspect - 1) ≡ true)
    × (count_by (is_pass_at (suspect - 1)) (reruns H o.search) < o.reruns))

-- no rerun spoke against the named suspect, and reruns lack that can't be made any more
pub record IsUnprovable (H : List Entry) (o : Opening) (suspect : ℕ) : Type 0 where
  pub named : IsNamed H o suspect
  pub none_against : (r : Run) → Contains (reruns H o.search) r → ¬ SpeaksAgainst suspect r
  pub lacking : CannotBeRerun H o suspect

-- none did, and fewer failed at it, or passed just below it, than were asked for, but more can be made
pub record IsBeingRerun (H : List Entry) (o : Opening) (suspect : ℕ) : Type 0 where
  pub named : IsNamed H o suspect
  pub none_against : (r : Run) → Contains (reruns H o.search) r → ¬ SpeaksAgainst suspect r
  pub lacking : (count_by (is_fail_at suspect) (reruns H o.search) < o.reruns)
      ⊎ (count_by (is_pass_at (suspect - 1)) (reruns H o.search) < o.reruns)
  pub possible : ¬ CannotBeRerun H o suspect

-- Why a search came to nothing: a report went over its budget; or no hypothesis is at the bar, and no position is open
-- any more, or hypotheses that can't be told apart any more are at the bar together; or the reruns that the named
-- suspect lacks can't be made any more
pub data IsInconclusive (H : List Entry) (o : Opening) : Type 0 where
  over_budget : was_cancelled H o.search ≡ false → went_over H o.search ≡ true → IsInconclusive H o
  none_open : IsBelieved H o → ((i : ℕ) → ¬ IsReached (setup_of o) (runs H o.search) i) →
      ((position : ℕ) → ¬ IsOpen H o position) → IsInconclusive H o
  none_apart : (first last : ℕ) → IsBelieved H o → ((i : ℕ) → ¬ IsReached (setup_of o) (runs H o.search) i) →
      AreHidden H o first last → IsInconclusive H o
  unprovable : (suspect : ℕ) → IsUnprovable H o suspect → IsInconclusive H o
