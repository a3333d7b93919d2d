-- What the subcommand `run JOURNAL` does.
use Rattle.std.specs.Prelude.{ℕ, ⊤, ◌≡◌, ◌≢◌, ◌⊎◌, ◌<◌, ◌≤◌, ◌++◌, true, List, [], length, Option, Some}
use Rattle.farm_disk.specs.Images.{IsSettled, LeavesOnly, LeavesSinceSync}
use Rattle.farm_disk.specs.declared.disk.Disk as disk
use Rattle.farm_entry.specs.Legal.{IsLegal}
use Rattle.farm_entry.specs.declared.entry.Entry.{Entry}
use Rattle.farm_script.specs.FarmRule.{farm_rule}
use Rattle.farm_script.specs.Images.{Rests, StandsBetween}
use Rattle.farm_script.specs.RunEnds.{RunEnds, Seen}
use Rattle.farm_script.specs.declared.run_end.RunEnd.{RunEnd}
use Rattle.farm_script.specs.declared.run_end.RunEnd.TheVariants as script
use Rattle.farm_store.specs.Bytes.{StandsFor}
use Rattle.farm_store.specs.State.{StoreState}
use Rattle.common_types.specs.Counts.{Rose}
use Rattle.link_io.specs.Streams.{Streams}
use Rattle.link_io.specs.declared.source.TheConstants.{INPUT_LIMIT}
use Rattle.outside_seen.specs.Outside.{DiskSeen}
use Rattle.finder_commands.specs.Opening.{IsNotOpened}
use Rattle.finder_commands.specs.RunCommand.{script_end}
use Rattle.finder_commands.specs.declared.status.Status.{Status}
use Rattle.finder_commands.specs.declared.status.Status.TheVariants.{Done, StoreFault, Memory, InputLimit}

-- how the run of a script over a journal ended that a status stands for
abbrev pub journal_end : Status → Option RunEnd
journal_end (StoreFault before after) = Some script.StoreFault
journal_end status = script_end status

-- a fault of the store has these counts, and stands for a run that one ended
abbrev pub IsStoreFaultOf : Status → ℕ → ℕ → RunEnd → Type 0
IsStoreFaultOf (StoreFault first last) before after end =
    (first ≡ before) × (last ≡ after) × (end ≡ script.StoreFault)
IsStoreFaultOf status before after end = ⊤

-- what is seen of a run over a journal: its streams, the history, and what a fault of the disk left undecided
abbrev pub over_journal : Streams → (history pending : List Entry) → Seen Entry
over_journal streams history pending = record { streams = streams; history = history; pending = pending }

-- The journal held a first history, and the script was run from there to a last one, with what a fault of the disk left
-- undecided: that is what the line adds at which the disk failed. Both are legal, the last one with what is undecided,
-- whether the disk tells what it holds or not.
--
-- At exit a read and each crash give the last history, or it with what is pending. A crash at any moment since the sync
-- with which opening begins leaves a history that begins with the first one, and of which the last one with what is
-- pending is a continuation; and so since the call's start, where the one image was then what a read gave.
pub record JournalRan (end : RunEnd) (before after : Streams) (old new : DiskSeen) : Type 0 where
  pub first : List Entry
  pub last : List Entry
  pub pending : List Entry
  pub held : old.tells ≡ true → StandsFor first old.told.bytes
  pub legal : IsLegal first
  pub ends : RunEnds farm_rule end (over_journal before first []) (over_journal after last pending)
  pub decided : end ≢ script.StoreFault → pending ≡ []
  pub legal_after : IsLegal (last ++ pending)
  pub at_exit : old.tells ≡ true → Rests StandsFor last pending new.told
  pub since_sync : old.tells ≡ true
      → LeavesSinceSync old.told new.told (StandsBetween StandsFor first (last ++ pending))
  pub any_moment : old.tells ≡ true → IsSettled old.told
      → LeavesOnly old.told new.told (StandsBetween StandsFor first (last ++ pending))

-- The script was run over a store in which nothing was pending, to a last history with what a fault of the disk left
-- undecided.
pub record StoreRan {D : Type 0} (meant : disk.Ghosts D) (end : RunEnd) (before after : Streams) (store : StoreState D)
    (new : D) : Type 0 where
  pub last : List Entry
  pub pending : List Entry
  pub more : List Entry
  pub longer : last ≡ store.history ++ more
  pub ends : RunEnds farm_rule end (over_journal before store.history []) (over_journal after last pending)
  pub decided : end ≢ script.StoreFault → pending ≡ []
  pub same : meant.tells new ≡ meant.tells store.disk
  pub rests : meant.tells store.disk ≡ true → Rests StandsFor store.history store.pending (meant.told store.disk)
      → Rests StandsFor last pending (meant.told new)
  pub each : meant.tells store.disk ≡ true → Rests StandsFor store.history store.pending (meant.told store.disk)
      → LeavesOnly (meant.told store.disk) (meant.told new) (StandsBetween StandsFor store.history (last ++ pending))

-- what a status says: the journal was not opened, or the script was run over it
abbrev pub JournalRunEnds : Status → Streams → Streams → DiskSeen → DiskSeen → Type 0
JournalRunEnds status before after old new =
    IsNotOpened status before after old new
    ⊎ ((end : RunEnd) × (journal_end status ≡ Some end) × JournalRan end before after old new)

-- where nothing fails and memory is there, a script below the limit is run to its end over a journal that holds a
-- history, and a longer one to the limit
abbrev pub JournalRunCompletes : Status → Streams → Streams → DiskSeen → DiskSeen → Type 0
JournalRunCompletes status before after old new =
    ¬ Rose before.read_faults after.read_faults → ¬ Rose before.write_faults after.write_faults
    → ¬ Rose old.faults new.faults → old.tells ≡ true
    → (history : List Entry) → StandsFor history old.told.bytes
    → (all : List ℕ) → before.left ≡ Some all
    → (status ≡ Memory) ⊎ ((length all < INPUT_LIMIT) × (status ≡ Done))
    ⊎ ((INPUT_LIMIT ≤ length all) × (status ≡ InputLimit))

-- what is said of a call: how it ends, and that it does its work
pub record JournalRunSays (status : Status) (before after : Streams) (old new : DiskSeen) : Type 0 where
  pub ends : JournalRunEnds status before after old new
  pub completes : JournalRunCompletes status before after old new
