-- What the subcommand `close JOURNAL` does.
use Rattle.std.specs.Prelude.{◌≡◌, ◌⊎◌, ℕ, true, false, not, ◌||◌, List, [], ◌∷◌, if◌then◌else◌}
use Rattle.farm_disk.specs.Images.{IsSettled, LeavesOnly, LeavesSinceSync}
use Rattle.farm_entry.specs.Closing.{is_busy}
use Rattle.farm_entry.specs.History.{is_closed}
use Rattle.farm_entry.specs.Legal.{IsLegal}
use Rattle.farm_entry.specs.declared.entry.Entry.{Entry}
use Rattle.farm_handover.specs.Handover.{handover_of}
use Rattle.farm_journal.specs.ReadsOnly.{ReadsOnly}
use Rattle.farm_store.specs.Bytes.{StandsFor}
use Rattle.farm_store.specs.Closed.{after_closing, closing_at}
use Rattle.farm_store.specs.State.{IsStored}
use Rattle.farm_store.specs.declared.closing.CloseFault.{CloseFault}
use Rattle.farm_store.specs.declared.closing.CloseFault.TheVariants as fault
use Rattle.farm_types.specs.declared.moment.Moment.{Moment}
use Rattle.common_types.specs.Counts.{Rose}
use Rattle.outside_seen.specs.Outside.{DiskSeen, OutputSeen}
use Rattle.finder_commands.specs.Opening.{IsNotOpened}
use Rattle.finder_commands.specs.TextPut.{TextPut}
use Rattle.finder_commands.specs.declared.status.Status.{Status}
use Rattle.finder_commands.specs.declared.status.Status.TheVariants.{Busy, Done, Memory, StoreFault}

-- how a call ends that closes no farm, where its disk had this count of faults at the start
abbrev pub status_of_unclosed : CloseFault → (first : ℕ) → Status
status_of_unclosed fault.Busy first = Busy
status_of_unclosed (fault.StoreFault before after) first = StoreFault first after
status_of_unclosed fault.Memory first = Memory

-- the bytes stand for this history, or for it with its closing
abbrev pub IsOpenOrClosed : List Entry → Moment → List ℕ → Type 0
IsOpenOrClosed H at bytes = StandsFor H bytes ⊎ StandsFor (after_closing H at) bytes

-- The farm of this history is closed, and so it is stored: a read and each crash give it. Then what it hands over was
-- put, as the status says. A farm that was closed before wasn't written to
pub record JournalClosed (H : List Entry) (at : Moment) (status : Status) (before after : OutputSeen)
    (old new : DiskSeen) : Type 0 where
  pub idle : is_closed H ≡ false → is_busy H ≡ false
  pub stored : old.tells ≡ true → IsStored (after_closing H at) [] new.told
  pub only : old.tells ≡ true → is_closed H ≡ true → ReadsOnly old.told new.told
  pub text : TextPut (handover_of (after_closing H at)) status before after

-- the farm is busy: nothing was put, and its disk was only read
pub record IsBusyStill (H : List Entry) (status : Status) (before after : OutputSeen) (old new : DiskSeen)
    : Type 0 where
  pub says : status ≡ Busy
  pub unclosed : is_closed H ≡ false
  pub busy : is_busy H ≡ true
  pub untouched : after ≡ before
  pub only : old.tells ≡ true → ReadsOnly old.told new.told

-- the disk failed as the closing was stored, which may be there: nothing was put
pub record IsLeftUndecided (H : List Entry) (at : Moment) (status : Status) (before after : OutputSeen)
    (old new : DiskSeen) : Type 0 where
  pub says : status ≡ StoreFault old.faults new.faults
  pub unclosed : is_closed H ≡ false
  pub idle : is_busy H ≡ false
  pub untouched : after ≡ before
  pub stored : old.tells ≡ true → IsStored H (closing_at H at ∷ []) new.told

-- memory ran out before anything was stored: nothing was put
pub record IsLeftOpen (H : List Entry) (status : Status) (before after : OutputSeen) (old new : DiskSeen)
    : Type 0 where
  pub says : status ≡ Memory
  pub untouched : after ≡ before
  pub stored : old.tells ≡ true → IsStored H [] new.told

-- what became of the farm
abbrev pub ClosingCame : List Entry → Moment → Status → OutputSeen → OutputSeen → DiskSeen → DiskSeen → Type 0
ClosingCame H at status before after old new =
    JournalClosed H at status before after old new
    ⊎ IsBusyStill H status before after old new
    ⊎ IsLeftUndecided H at status before after old new
    ⊎ IsLeftOpen H status before after old new

-- The journal held a legal history, whose farm was to be closed at a moment that the clock may give. A crash since the
-- sync with which opening begins leaves that history, or it with its closing, and so does one since the call's start
-- where the one image was then what a read gave
pub record ClosingTried (clock : Moment → Type 0) (status : Status) (before after : OutputSeen) (old new : DiskSeen)
    : Type 0 where
  pub history : List Entry
  pub held : old.tells ≡ true → StandsFor history old.told.bytes
  pub legal : IsLegal history
  pub at : Moment
  pub given : clock at
  pub came : ClosingCame history at status before after old new
  pub since_sync : old.tells ≡ true → LeavesSinceSync old.told new.told (IsOpenOrClosed history at)
  pub any_moment : old.tells ≡ true → IsSettled old.told → LeavesOnly old.told new.told (IsOpenOrClosed history at)

-- what a status says: the journal was not opened, or its farm was to be closed
abbrev pub CloseEnds : (clock : Moment → Type 0) → Status → OutputSeen → OutputSeen → DiskSeen → DiskSeen → Type 0
CloseEnds clock status before after old new =
    IsNotOpened status before after old new ⊎ ClosingTried clock status before after old new

-- how a call ends that does its work
abbrev pub status_of_closing : List Entry → Status
status_of_closing H = if is_closed H || not (is_busy H) then Done else Busy

-- where neither the disk nor the output fails and memory is there, a farm that isn't busy is closed, and of a busy one
-- the status says so
abbrev pub CloseCompletes : Status → OutputSeen → OutputSeen → DiskSeen → DiskSeen → Type 0
CloseCompletes status before after old new =
    ¬ Rose before.faults after.faults → ¬ Rose old.faults new.faults → old.tells ≡ true
    → (history : List Entry) → StandsFor history old.told.bytes
    → (status ≡ Memory) ⊎ (status ≡ status_of_closing history)

-- what is said of a call: how it ends, and that it does its work
pub record CloseSays (clock : Moment → Type 0) (status : Status) (before after : OutputSeen) (old new : DiskSeen)
    : Type 0 where
  pub ends : CloseEnds clock status before after old new
  pub completes : CloseCompletes status before after old new
