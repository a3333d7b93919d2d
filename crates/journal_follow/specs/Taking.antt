-- What a follower does with a page.
use Rattle.std.specs.Prelude.{◌≡◌, ◌≢◌, ◌≤◌, ◌<◌, ◌⊎◌, ◌+◌, ◌-◌, ℕ, List, [], ◌++◌, length}
use Rattle.farm_entry.specs.declared.entry.Entry.{Entry}
use Rattle.journal_follow.specs.Page.{GoesWith, IsForeignAt, entries_past}

-- What a follower holds: its history, and the entries of the record that a fault of its disk left undecided.
pub record Held : Type 0 where
  pub history : List Entry
  pub pending : List Entry

-- the history once it is known whether what was pending was kept
abbrev pub IsDecided : Held → List Entry → Type 0
IsDecided held history = (history ≡ held.history) ⊎ (history ≡ held.history ++ held.pending)

-- what taking a page comes to
pub data Came : Type 0 where
  stored : (count : ℕ) → Came  -- so many entries of it, those past the held ones, were stored
  gap : (from have : ℕ) → Came  -- it begins past the entry behind the held ones
  foreign : (place : ℕ) → Came  -- its entry for this place is the first that isn't the held one, or can't come next
  unrepaired : Came  -- whether the entries that were pending before were kept could not be found out
  undecided : Came  -- the disk failed as its entries were stored: they are pending
  unstored : Came  -- nothing of it was stored

-- What taking a page comes to, that begins with the entry of this number, counted from 1. It begins with finding out
-- whether what was pending was kept.
abbrev pub Takes : Came → (from : ℕ) → (page : List Entry) → (old new : Held) → Type 0
Takes (stored count) from page old new =
    (H : List Entry) × IsDecided old H × (from ≤ length H + 1) × GoesWith H (from - 1) page
    × (new.history ≡ H ++ entries_past H (from - 1) page) × (new.pending ≡ [])
    × (count ≡ length (entries_past H (from - 1) page))
Takes (gap first have) from page old new =
    IsDecided old new.history × (new.pending ≡ []) × (first ≡ from) × (have ≡ length new.history) × (have + 1 < from)
Takes (foreign place) from page old new =
    IsDecided old new.history × (new.pending ≡ []) × (from ≤ length new.history + 1)
    × IsForeignAt new.history (from - 1) page place
Takes unrepaired from page old new =
    (old.pending ≢ []) × (new.history ≡ old.history) × (new.pending ≡ old.pending)
Takes undecided from page old new =
    IsDecided old new.history × (from ≤ length new.history + 1) × GoesWith new.history (from - 1) page
    × (new.pending ≡ entries_past new.history (from - 1) page) × (new.pending ≢ [])
Takes unstored from page old new = IsDecided old new.history × (new.pending ≡ [])

-- What a crash may leave while a page is taken: the history from before, with or without what was pending then, or the
-- one from now with all that is pending now.
abbrev pub IsLeft : (old new : Held) → List Entry → Type 0
IsLeft old new history = IsDecided old history ⊎ (history ≡ new.history ++ new.pending)
