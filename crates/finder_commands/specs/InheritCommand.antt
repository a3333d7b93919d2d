-- What the subcommand `inherit JOURNAL LEASE_MS DAILY ZONE` does.
use Rattle.std.specs.Prelude.{◌≡◌, ◌⊎◌, ◌<◌, ◌≤◌, ℕ, ℤ, ⊤, Bool, true, false, List, [], length, drop, Some, Result, Ok, Err}
use Rattle.farm_disk.specs.Images.{EachImage, LeavesOnly, LeavesSinceSync}
use Rattle.farm_entry.specs.declared.settings.Settings.{Settings}
use Rattle.farm_handover.specs.Handover.{handed_over}
use Rattle.farm_journal.specs.Created.{IsUnborn}
use Rattle.farm_journal.specs.Layout.{is_unborn}
use Rattle.farm_journal.specs.declared.fault.CreateFault.{CreateFault}
use Rattle.farm_rules.specs.Orders.{Ordered}
use Rattle.farm_store.specs.Founded.{IsRefusedBy}
use Rattle.farm_store.specs.Inherited.{IsUnbornOrInheriting, inheriting}
use Rattle.farm_store.specs.State.{IsStored}
use Rattle.farm_types.specs.declared.moment.Moment.{Moment}
use Rattle.common_types.specs.Counts.{Rose}
use Rattle.link_io.specs.Streams.{Streams}
use Rattle.link_io.specs.declared.source.TheConstants.{INPUT_LIMIT}
use Rattle.outside_seen.specs.Outside.{DiskSeen, InputSeen, OutputSeen}
use Rattle.finder_commands.specs.Found.{HasNumbers, founded_text, status_of_creating}
use Rattle.finder_commands.specs.RanOut.{RanOut}
use Rattle.finder_commands.specs.TextPut.{TextPut}
use Rattle.finder_commands.specs.declared.status.Status.{Status}
use Rattle.finder_commands.specs.declared.status.Status.TheVariants.{AlreadyBorn, BadInput, Done, InputLimit, Memory, ReadFault}

-- what is seen of the input and of the output of streams
abbrev pub input_of : Streams → InputSeen
input_of seen = record { left = seen.left; faults = seen.read_faults }

abbrev pub output_of : Streams → OutputSeen
output_of seen = record { written = seen.written; faults = seen.write_faults }

-- What a status says of an input that hands nothing over: it failed; so many bytes were taken and no more; memory ran
-- out; or it was read to its end below the limit, and its first line outside the form has this number. No other comes
abbrev pub NothingRead : Status → InputSeen → InputSeen → Type 0
NothingRead ReadFault before after = Rose before.faults after.faults
NothingRead InputLimit before after =
    (all : List ℕ) → before.left ≡ Some all → (INPUT_LIMIT ≤ length all) × (after.left ≡ Some (drop INPUT_LIMIT all))
NothingRead Memory before after = ⊤
NothingRead (BadInput line) before after =
    (all : List ℕ) → before.left ≡ Some all
    → (length all < INPUT_LIMIT) × (after.left ≡ Some []) × (handed_over all ≡ Err line)
NothingRead _ before after = ⊥

-- nothing was read: nothing was put, and what is seen of the disk is as before
pub record NotRead (status : Status) (before after : Streams) (old new : DiskSeen) : Type 0 where
  pub why : NothingRead status (input_of before) (input_of after)
  pub untouched : output_of after ≡ output_of before
  pub same : new ≡ old

-- the input was read to its end below the limit, and hands these orders over
abbrev pub WasHandedOver : List Ordered → InputSeen → InputSeen → Type 0
WasHandedOver orders before after =
    (all : List ℕ) → before.left ≡ Some all
    → (length all < INPUT_LIMIT) × (after.left ≡ Some []) × (handed_over all ≡ Ok orders)

-- nothing was put, and why nothing was founded goes by what the bytes were
pub record NotInherited (fault : CreateFault) (before after : Streams) (old : DiskSeen) : Type 0 where
  pub untouched : output_of after ≡ output_of before
  pub cause : old.tells ≡ true → IsRefusedBy old.told.bytes fault

-- the disk was unborn, and a read and each crash give the one founding with all of the orders now; then the text was
-- put
pub record JournalInherited (settings : Settings) (at : Moment) (orders : List Ordered) (status : Status)
    (before after : Streams) (old new : DiskSeen) : Type 0 where
  pub was_unborn : old.tells ≡ true → is_unborn old.told.bytes ≡ true
  pub stored : old.tells ≡ true → IsStored (inheriting settings at orders) [] new.told
  pub text : TextPut founded_text status (output_of before) (output_of after)

-- what a status says: nothing was founded, or the journal was
abbrev pub InheritingEnds : Settings → Moment → List Ordered → Status → Streams → Streams → DiskSeen → DiskSeen → Type 0
InheritingEnds settings at orders status before after old new =
    ((fault : CreateFault) × (status ≡ status_of_creating fault) × NotInherited fault before after old)
    ⊎ JournalInherited settings at orders status before after old new

-- What a crash may leave, whatever the status. A disk that was born keeps its bytes. On one that was unborn a crash
-- since the first sync that was done leaves an unborn file, or the founding with all of the orders, and so it does from
-- the start where each image was unborn then
pub record InheritingLeaves (settings : Settings) (at : Moment) (orders : List Ordered) (old new : DiskSeen)
    : Type 0 where
  pub born : old.tells ≡ true → is_unborn old.told.bytes ≡ false → new.told.bytes ≡ old.told.bytes
  pub since_sync : old.tells ≡ true → is_unborn old.told.bytes ≡ true
      → LeavesSinceSync old.told new.told (IsUnbornOrInheriting settings at orders)
  pub any_moment : old.tells ≡ true → is_unborn old.told.bytes ≡ true → EachImage old.told.steps IsUnborn
      → LeavesOnly old.told new.told (IsUnbornOrInheriting settings at orders)

-- the input hands orders over, and a journal is founded with them and with these settings at a moment that the clock
-- may give, or why it is not
pub record InheritingTried (clock : Moment → Type 0) (settings : Settings) (status : Status) (before after : Streams)
    (old new : DiskSeen) : Type 0 where
  pub orders : List Ordered
  pub read : WasHandedOver orders (input_of before) (input_of after)
  pub at : Moment
  pub given : clock at
  pub ends : InheritingEnds settings at orders status before after old new
  pub leaves : InheritingLeaves settings at orders old new

-- what the status says where the input was read, and the disk is unborn or not: a journal was founded, there is one
-- already, or this line is outside the form
abbrev pub IsInheritedBy : Status → (unborn : Bool) → Result (List Ordered) ℕ → Type 0
IsInheritedBy status unborn (Ok orders) =
    ((unborn ≡ true) × (status ≡ Done)) ⊎ ((unborn ≡ false) × (status ≡ AlreadyBorn))
IsInheritedBy status unborn (Err line) = status ≡ BadInput line

-- the same of each input: one that is too long gets InputLimit, and memory may run out
abbrev pub InheritDone : Status → (unborn : Bool) → (all : List ℕ) → Type 0
InheritDone status unborn all =
    (status ≡ Memory)
    ⊎ ((INPUT_LIMIT ≤ length all) × (status ≡ InputLimit))
    ⊎ ((length all < INPUT_LIMIT) × IsInheritedBy status unborn (handed_over all))

-- Where nothing fails and memory is there, an input below the limit in the form founds a journal on an unborn disk, and
-- one that is there already is told; any other gets the number of its first line outside the form, and one that is
-- longer InputLimit
abbrev pub InheritCompletes : Status → Streams → Streams → DiskSeen → DiskSeen → Type 0
InheritCompletes status before after old new =
    ¬ Rose before.read_faults after.read_faults → ¬ Rose before.write_faults after.write_faults
    → ¬ Rose old.faults new.faults → old.tells ≡ true → (all : List ℕ) → before.left ≡ Some all
    → InheritDone status (is_unborn old.told.bytes) all

-- What is said of a call whose words have these numbers: memory ran out as they were read, nothing was read, or a
-- journal was to be founded with settings that have them; and that it does its work
pub record InheritSays (lease_ms daily : ℕ) (zone_minutes : ℤ) (clock : Moment → Type 0) (status : Status)
    (before after : Streams) (old new : DiskSeen) : Type 0 where
  pub ends : RanOut {V = Streams × DiskSeen} status (before, old) (after, new)
      ⊎ NotRead status before after old new
      ⊎ ((settings : Settings) × HasNumbers settings lease_ms daily zone_minutes
      × InheritingTried clock settings status before after old new)
  pub completes : InheritCompletes status before after old new
