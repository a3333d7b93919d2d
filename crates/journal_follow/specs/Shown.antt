-- The history that the bytes of a follower's disk stand for, at any moment.
use Rattle.std.specs.Prelude.{◌≡◌, ◌⊎◌, ℕ, List, [], ◌∷◌, ◌++◌}
use Rattle.farm_disk.specs.Images.{DiskState, EachImage}
use Rattle.farm_entry.specs.declared.entry.Entry.{Entry}
use Rattle.farm_journal.specs.Created.{IsUnborn}
use Rattle.farm_store.specs.Bytes.{StandsFor}
use Rattle.common_types.specs.Prefix.{IsPrefix}
use Rattle.journal_follow.specs.Taking.{Held, IsDecided, IsLeft}

-- bytes stand for a history that may be held: unborn ones for the empty one
abbrev pub Shows : List Entry → List ℕ → Type 0
Shows [] bytes = IsUnborn bytes
Shows (e ∷ more) bytes = StandsFor (e ∷ more) bytes

-- they stand for what is held, with or without what is pending
abbrev pub ShowsDecided : Held → List ℕ → Type 0
ShowsDecided held bytes = (history : List Entry) × IsDecided held history × Shows history bytes

-- they stand for what a crash may leave while a page is taken
abbrev pub ShowsLeft : (old new : Held) → List ℕ → Type 0
ShowsLeft old new bytes = (history : List Entry) × IsLeft old new history × Shows history bytes

-- they stand for a history between what was held and what is held with all that is pending
abbrev pub ShowsBetween : (old new : Held) → List ℕ → Type 0
ShowsBetween old new bytes =
    (history : List Entry) × IsPrefix old.history history
    × (IsPrefix history (new.history ++ new.pending) ⊎ (history ≡ old.history ++ old.pending)) × Shows history bytes

-- A read gives what is held, with or without what is pending, and so does each crash. An unborn file stands for the
-- empty history.
pub record IsKept (held : Held) (disk : DiskState) : Type 0 where
  pub reads : ShowsDecided held disk.bytes
  pub images : EachImage disk.steps (ShowsDecided held)
