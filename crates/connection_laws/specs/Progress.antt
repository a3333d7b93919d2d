-- What is carried from one item of a connection to the next.
use Rattle.std.specs.Prelude.{ℕ, ◌-◌, ◌≤◌, List, [], ◌∷◌, ◌++◌, length}
use Rattle.farm_entry.specs.Decision.{decide}
use Rattle.farm_entry.specs.Playing.{after}
use Rattle.farm_entry.specs.declared.decision.Decision.{Decision}
use Rattle.farm_entry.specs.declared.decision.Decision.TheVariants.{New, Refuse, Repeat, Show}
use Rattle.farm_entry.specs.declared.entry.Entry.{Entry}
use Rattle.farm_store.specs.declared.asking.Ask.{Ask}
use Rattle.farm_store.specs.declared.asking.TheConstants.{MAX_BATCH}
use Rattle.common_types.specs.Prefix.{IsPrefix}
use Rattle.connection_laws.specs.Marks.{Mark}
use Rattle.connection_laws.specs.Outcomes.{ItemOutcome, faulted, misread, answered, counted, copied, failed, failed_too, unread, uncalled, Step}

-- what is carried from item to item
pub record Progress : Type 0 where
  -- the history after the last command
  pub seen : List Entry
  -- the history of the last totals
  pub totals : List Entry
  -- the disk's count after the last call that failed
  pub faults : ℕ
  -- how many commands more may be of the batch that failed in it
  pub left : ℕ

-- what is carried to the first item: what a pass and a reader have seen, and the count of faults that the pass saw
abbrev pub progress_from : (seen totals : List Entry) → (faults : ℕ) → Progress
progress_from seen totals faults = record { seen = seen; totals = totals; faults = faults; left = 0 }

-- the same, by a mark
abbrev pub progress_at : Mark → Progress
progress_at start = progress_from start.seen start.totals start.faults

-- from an item that isn't of a batch that failed, with this history after it
abbrev pub progress_with : Progress → List Entry → Progress
progress_with c H = record { seen = H; totals = c.totals; faults = c.faults; left = 0 }

-- what a decision on an ask is at a history
abbrev pub decision_on : List Entry → Ask → Decision
decision_on H ask = decide H ask.command ask.at

-- what is carried past an item that came to this
abbrev pub progress_past : Progress → ItemOutcome → Progress
progress_past c (faulted f) = progress_with c c.seen
progress_past c (misread f) = progress_with c c.seen
progress_past c (answered H ask a) = progress_with c (after H (decision_on H ask))
progress_past c (counted H) = record { seen = c.seen; totals = H; faults = c.faults; left = 0 }
progress_past c (copied H from) = progress_with c H
progress_past c (failed H ask before count) = record {
  seen = H;
  totals = c.totals;
  faults = count;
  left = MAX_BATCH - 1;
}
progress_past c (failed_too ask) = record { seen = c.seen; totals = c.totals; faults = c.faults; left = c.left - 1 }
progress_past c unread = progress_with c c.seen
progress_past c (uncalled H ask) = progress_with c H

-- what is carried past all items
abbrev pub progress_after : Progress → List Step → Progress
progress_after c [] = c
progress_after c (step ∷ steps) = progress_after (progress_past c step.outcome) steps

-- what was carried is within what is seen in the end, and the totals that were read last with it
pub record IsWithin (c : Progress) (final : Mark) : Type 0 where
  pub seen : IsPrefix c.seen final.seen
  pub totals : IsPrefix c.totals final.totals
  pub faults : c.faults ≤ final.faults

-- the first may be carried in place of the second: its histories begin those of the second, and its count isn't greater
pub record IsBefore (c d : Progress) : Type 0 where
  pub seen : IsPrefix c.seen d.seen
  pub totals : IsPrefix c.totals d.totals
  pub faults : c.faults ≤ d.faults
  pub left : d.left ≤ c.left

-- the place of the entry that a decision records at a history, if it records one
abbrev pub new_place : List Entry → Decision → List ℕ
new_place H (Refuse cause) = []
new_place H (Repeat place) = []
new_place H (Show page) = []
new_place H (New e) = length H ∷ []

-- the same for what an item came to
abbrev pub recorded_place : ItemOutcome → List ℕ
recorded_place (answered H ask a) = new_place H (decision_on H ask)
recorded_place _ = []

-- the places of the entries that the commands recorded, in their order
abbrev pub recorded_places : List Step → List ℕ
recorded_places [] = []
recorded_places (step ∷ steps) = recorded_place step.outcome ++ recorded_places steps
