-- What the subcommand `show JOURNAL` does.
use Rattle.std.specs.Prelude.{◌≡◌, ◌⊎◌, true, ℕ, List}
use Rattle.farm_entry.specs.Legal.{IsLegal}
use Rattle.farm_entry.specs.declared.entry.Entry.{Entry}
use Rattle.farm_journal.specs.ReadsOnly.{ReadsOnly}
use Rattle.farm_script.specs.Shown.{shown_text}
use Rattle.farm_store.specs.Bytes.{StandsFor}
use Rattle.common_types.specs.Counts.{Rose}
use Rattle.outside_seen.specs.Outside.{DiskSeen, OutputSeen}
use Rattle.finder_commands.specs.Opening.{IsNotOpened}
use Rattle.finder_commands.specs.TextPut.{TextPut}
use Rattle.finder_commands.specs.declared.status.Status.{Status}
use Rattle.finder_commands.specs.declared.status.Status.TheVariants.{Done, Memory}

-- The journal held a history, of which a text was put, and its disk was only read. The history is legal, whether the
-- disk tells what it holds or not
pub record JournalShown (text_of : List Entry → List ℕ) (status : Status) (before after : OutputSeen)
    (old new : DiskSeen) : Type 0 where
  pub history : List Entry
  pub held : old.tells ≡ true → StandsFor history old.told.bytes
  pub legal : IsLegal history
  pub only : old.tells ≡ true → ReadsOnly old.told new.told
  pub text : TextPut (text_of history) status before after

-- what a status says: the journal was not opened, or it was shown
abbrev pub ShowEnds : Status → OutputSeen → OutputSeen → DiskSeen → DiskSeen → Type 0
ShowEnds status before after old new =
    IsNotOpened status before after old new ⊎ JournalShown shown_text status before after old new

-- where neither the disk nor the output fails and memory is there, a journal that holds a history is shown
abbrev pub ShowCompletes : Status → OutputSeen → OutputSeen → DiskSeen → DiskSeen → Type 0
ShowCompletes status before after old new =
    ¬ Rose before.faults after.faults → ¬ Rose old.faults new.faults → old.tells ≡ true
    → (history : List Entry) → StandsFor history old.told.bytes
    → (status ≡ Memory) ⊎ (status ≡ Done)

-- what is said of a call: how it ends, and that it does its work
pub record ShowSays (status : Status) (before after : OutputSeen) (old new : DiskSeen) : Type 0 where
  pub ends : ShowEnds status before after old new
  pub completes : ShowCompletes status before after old new
