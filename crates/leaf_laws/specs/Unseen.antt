-- The ends of a search of which its runs don't tell.
use Rattle.std.specs.Prelude.{◌≡◌, ◌⊎◌, false, List, None}
use Rattle.farm_entry.specs.History.{went_over}
use Rattle.farm_entry.specs.Standing.{at_bar, standing}
use Rattle.farm_entry.specs.declared.entry.Entry.{Entry}
use Rattle.farm_entry.specs.declared.opening.Opening.{Opening}
use Rattle.farm_entry.specs.declared.standing.Standing.TheVariants.{Cancelled, Inconclusive}

-- a search has ended, and its runs don't tell: it was cancelled; or it is inconclusive though no report went over its
-- budget and no hypothesis is at the bar, so that skipped positions ended it
abbrev pub HasEndedUnseen : List Entry → Opening → Type 0
HasEndedUnseen H o =
    (standing H o ≡ Cancelled) ⊎ ((standing H o ≡ Inconclusive) × (went_over H o.search ≡ false) × (at_bar H o ≡ None))
