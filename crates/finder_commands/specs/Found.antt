-- What the subcommand `found JOURNAL LEASE_MS DAILY ZONE` does.
use Rattle.std.specs.Prelude.{◌≡◌, ◌⊎◌, ℕ, ℤ, true, false, List, [], codes}
use Rattle.farm_disk.specs.Images.{EachImage, LeavesOnly, LeavesSinceSync}
use Rattle.farm_entry.specs.Settings.{settings_daily, settings_lease_ms, settings_zone_minutes}
use Rattle.farm_entry.specs.declared.settings.Settings.{Settings}
use Rattle.farm_journal.specs.Created.{IsUnborn}
use Rattle.farm_journal.specs.Layout.{is_unborn}
use Rattle.farm_journal.specs.declared.fault.CreateFault.{CreateFault}
use Rattle.farm_journal.specs.declared.fault.CreateFault.TheVariants as fault
use Rattle.farm_store.specs.Founded.{IsRefusedBy, IsUnbornOrFounding, founding}
use Rattle.farm_store.specs.State.{IsStored}
use Rattle.farm_types.specs.declared.moment.Moment.{Moment}
use Rattle.common_types.specs.Counts.{Rose}
use Rattle.outside_seen.specs.Outside.{DiskSeen, OutputSeen}
use Rattle.finder_commands.specs.TextPut.{TextPut}
use Rattle.finder_commands.specs.RanOut.{RanOut}
use Rattle.finder_commands.specs.declared.status.Status.{Status}
use Rattle.finder_commands.specs.declared.status.Status.TheVariants.{Done, StoreFault, AlreadyBorn, Memory}

-- what is written where a journal was founded
abbrev pub founded_text : List ℕ
founded_text = codes "founded\n"

-- the settings have these numbers
pub record HasNumbers (settings : Settings) (lease_ms daily : ℕ) (zone_minutes : ℤ) : Type 0 where
  pub lease : settings_lease_ms settings ≡ lease_ms
  pub orders : settings_daily settings ≡ daily
  pub zone : settings_zone_minutes settings ≡ zone_minutes

-- how a call ends that founds no journal
abbrev pub status_of_creating : CreateFault → Status
status_of_creating fault.AlreadyBorn = AlreadyBorn
status_of_creating (fault.StoreFault before after) = StoreFault before after
status_of_creating fault.Memory = Memory

-- nothing was put, and why nothing was founded goes by what the bytes were
pub record NotFounded (fault : CreateFault) (before after : OutputSeen) (old : DiskSeen) : Type 0 where
  pub untouched : after ≡ before
  pub cause : old.tells ≡ true → IsRefusedBy old.told.bytes fault

-- the disk was unborn, and a read and each crash give the one founding now; then the text was put
pub record JournalFounded (settings : Settings) (at : Moment) (status : Status) (before after : OutputSeen)
    (old new : DiskSeen) : Type 0 where
  pub was_unborn : old.tells ≡ true → is_unborn old.told.bytes ≡ true
  pub stored : old.tells ≡ true → IsStored (founding settings at) [] new.told
  pub text : TextPut founded_text status before after

-- what a status says: nothing was founded, or the journal was
abbrev pub FoundEnds : Settings → Moment → Status → OutputSeen → OutputSeen → DiskSeen → DiskSeen → Type 0
FoundEnds settings at status before after old new =
    ((fault : CreateFault) × (status ≡ status_of_creating fault) × NotFounded fault before after old)
    ⊎ JournalFounded settings at status before after old new

-- What a crash may leave, whatever the status. A disk that was born keeps its bytes. On one that was unborn a crash
-- since the first sync that was done leaves an unborn file or the founding, and so it does from the start where each
-- image was unborn then.
pub record FoundLeaves (settings : Settings) (at : Moment) (old new : DiskSeen) : Type 0 where
  pub born : old.tells ≡ true → is_unborn old.told.bytes ≡ false → new.told.bytes ≡ old.told.bytes
  pub since_sync : old.tells ≡ true → is_unborn old.told.bytes ≡ true
      → LeavesSinceSync old.told new.told (IsUnbornOrFounding settings at)
  pub any_moment : old.tells ≡ true → is_unborn old.told.bytes ≡ true → EachImage old.told.steps IsUnborn
      → LeavesOnly old.told new.told (IsUnbornOrFounding settings at)

-- a journal is founded with these settings at a moment that the clock may give, or why it is not
abbrev pub JournalFoundEnds : (clock : Moment → Type 0) → Settings → Status → OutputSeen → OutputSeen → DiskSeen
    → DiskSeen → Type 0
JournalFoundEnds clock settings status before after old new =
    (at : Moment) × clock at × FoundEnds settings at status before after old new × FoundLeaves settings at old new

-- where neither the disk nor the output fails and memory is there, a journal is founded on an unborn disk, and one that
-- is there already is told
abbrev pub FoundCompletes : Status → OutputSeen → OutputSeen → DiskSeen → DiskSeen → Type 0
FoundCompletes status before after old new =
    ¬ Rose before.faults after.faults → ¬ Rose old.faults new.faults → old.tells ≡ true
    → (status ≡ Memory) ⊎ ((is_unborn old.told.bytes ≡ true) × (status ≡ Done))
    ⊎ ((is_unborn old.told.bytes ≡ false) × (status ≡ AlreadyBorn))

-- What is said of a call whose words have these numbers: memory ran out as they were read, or a journal was to be
-- founded with settings that have them; and that it does its work.
pub record FoundSays (lease_ms daily : ℕ) (zone_minutes : ℤ) (clock : Moment → Type 0) (status : Status)
    (before after : OutputSeen) (old new : DiskSeen) : Type 0 where
  pub ends : RanOut {V = OutputSeen × DiskSeen} status (before, old) (after, new)
      ⊎ ((settings : Settings) × HasNumbers settings lease_ms daily zone_minutes
      × JournalFoundEnds clock settings status before after old new)
  pub completes : FoundCompletes status before after old new
