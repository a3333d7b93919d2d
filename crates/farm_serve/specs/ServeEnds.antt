-- What a service promises.
use Rattle.std.specs.Prelude.{◌≡◌, ◌⊎◌, ◌<◌, ◌++◌, ℕ, List, [], length, true, false, Option, Some, IfSome}
use Rattle.connection_laws.specs.Marks.{Mark, Follows, mark_with}
use Rattle.farm_disk.specs.Images.{IsSettled, LeavesOnly, LeavesSinceSync}
use Rattle.farm_entry.specs.Legal.{IsLegal}
use Rattle.farm_entry.specs.declared.entry.Entry.{Entry}
use Rattle.farm_journal.specs.Opened.{OpeningCause}
use Rattle.farm_journal.specs.ReadsOnly.{ReadsOnly}
use Rattle.farm_journal.specs.declared.fault.OpeningFault.{OpeningFault}
use Rattle.farm_journal.specs.declared.fault.OpeningFault.TheVariants as opening
use Rattle.farm_store.specs.Bytes.{StandsFor}
use Rattle.farm_store.specs.Opened.{IsMissedBy}
use Rattle.farm_store.specs.State.{IsStored}
use Rattle.farm_types.specs.declared.moment.Moment.{Moment}
use Rattle.common_types.specs.Counts.{Rose}
use Rattle.link_io.specs.Events.{NetworkEvent}
use Rattle.connection_laws.specs.Owners.{AreAllOwned, Owned}
use Rattle.connection_laws.specs.Told.{Saying}
use Rattle.turn_lock.specs.Places.{ArePlaces}
use Rattle.link_io.specs.Notes.{Note}
use Rattle.farm_serve.specs.Acknowledged.{acknowledged_by}
use Rattle.farm_serve.specs.Crashes.{StandsWithin, WentByTurns}
use Rattle.farm_serve.specs.Ending.{HasNetCause, TellsFailure, is_memory}
use Rattle.farm_serve.specs.Gained.{AreAccepts, AreHeldBack, accepts_of, has_failed, last_ended, links_of, returns_of}
use Rattle.farm_serve.specs.LastLine.{LinePut, farm_line}
use Rattle.outside_seen.specs.Outside.{DiskSeen, Outside}
use Rattle.farm_serve.specs.declared.ending.Ending.{Ending}
use Rattle.farm_serve.specs.declared.ending.Ending.TheVariants as end

-- what is seen of a farm: a history, with its totals, and how often its disk has failed
abbrev pub mark_at : List Entry → DiskSeen → Mark
mark_at history disk = mark_with history disk.faults

-- Of the events that the network gained, the newest first. Unless memory ran out they hold so many accepts, or fewer of
-- which the last one answered that no more will come; no connect was made, and no accept behind such an answer. As
-- many links were taken back as were given. Each of them was read and answered whole; or a part is held of what was put
-- to it, and then it failed, or memory ran out: from what was lent to it to what was seen when it was taken back, with
-- the moments that the clock may give, and with this said of its answers by the notes that it took. And whether an
-- accept failed is as the ending says.
--
-- Each link begins at histories that begin with all that the links were told which had been taken back before its
-- accept, but for totals: of those it begins at what there was at entry. The network doesn't say which of the links
-- that are out came from which accept: the beginnings of those are what was seen at their accepts, one for each
-- (`AreHeldBack`).
--
-- Each entry behind the history of the first mark is a connection's own. One command of one connection recorded it, at
-- its place in the history; or it was pending in a turn whose command got 503, behind the history of that turn, and all
-- that was pending then is in the last history, and no more than fits one record.
pub record LinksServed (start final : Mark) (clock : Moment → Type 0)
    (said : List Note → Saying) (links : ℕ) (ending : Ending)
    (before : List NetworkEvent) (now : Option (List NetworkEvent)) : Type 0 where
  pub gained : List NetworkEvent
  pub is : now ≡ Some (gained ++ before)
  pub accepts : is_memory ending ≡ false
      → (accepts_of gained ≡ links) ⊎ ((accepts_of gained < links) × (last_ended gained ≡ true))
  pub asked : AreAccepts gained
  pub back : links_of gained ≡ returns_of gained
  pub owned : Owned
  pub held : AreHeldBack start final clock said (is_memory ending) owned [] gained
  pub places : ArePlaces 0 (length final.seen) owned.places
  pub whose : AreAllOwned owned (length start.seen) final.seen
  pub fault : TellsFailure ending (has_failed gained)

-- The journal was not opened: no accept was made, nothing was put, and the disk was only read. Why is what its bytes
-- are, or the disk failed, or memory ran out.
pub record JournalMissed (fault : OpeningFault) (old new : Outside) : Type 0 where
  pub untouched : (new.network ≡ old.network) × (new.output ≡ old.output)
  pub cause : old.disk.tells ≡ true → IsMissedBy old.disk.told.bytes fault
  pub only : old.disk.tells ≡ true → ReadsOnly old.disk.told new.disk.told
  pub counts : OpeningCause fault old.disk.faults new.disk.faults

-- The journal held a first history, and its farm was served from there to a last one, whose line was put. Both are
-- legal, whether the disk tells what it holds or not. At exit a read of the disk, and each crash, gives the last
-- history, or it with what a fault of the disk left undecided, where the disk failed in this call.
--
-- A crash at any moment since the sync with which opening begins leaves a history that begins with the first one, and
-- with which the last one begins; or such a one with entries that a fault of the disk left undecided, where the disk
-- failed in this call. And so since the call's start, where the one image was then what a read gave. What stood before
-- a turn each crash leaves from then on. And what was acknowledged stands: before the first byte of the answer to a
-- command, or of a log page, its link took a note of a moment of this disk since which each image holds the history
-- that the answer tells of, with the entry that the command recorded. All totals that were answered are of prefixes of
-- the last history.
pub record FarmServed (links : ℕ) (clock : Moment → Type 0) (ending : Ending) (old new : Outside) : Type 0 where
  pub first : List Entry
  pub last : List Entry
  pub pending : List Entry
  pub held : old.disk.tells ≡ true → StandsFor first old.disk.told.bytes
  pub legal : IsLegal first
  pub follows : Follows (mark_at first old.disk) (mark_at last new.disk)
  pub legal_after : IsLegal last
  pub at_exit : old.disk.tells ≡ true → IsStored last pending new.disk.told
  pub decided : old.disk.tells ≡ true → (pending ≡ []) ⊎ Rose old.disk.faults new.disk.faults
  pub since_sync : old.disk.tells ≡ true → LeavesSinceSync old.disk.told new.disk.told
      (StandsWithin (mark_at first old.disk) (mark_at last new.disk))
  pub any_moment : old.disk.tells ≡ true → IsSettled old.disk.told → LeavesOnly old.disk.told new.disk.told
      (StandsWithin (mark_at first old.disk) (mark_at last new.disk))
  pub by_turns : old.disk.tells ≡ true
      → WentByTurns (mark_at first old.disk) (mark_at last new.disk) pending old.disk.told new.disk.told
  pub text : LinePut (farm_line last) ending old.output new.output
  pub served : IfSome old.network.told (λ before. LinksServed (mark_at first old.disk) (mark_at last new.disk) clock
      (acknowledged_by old.disk.tells new.disk.told) links ending before new.network.told)
  pub cause : HasNetCause ending old.network.faults new.network.faults

-- what a service came to, by how it ended: so many accepts were to be made, and the clock may give these moments
abbrev pub ServeEnds : (links : ℕ) → (Moment → Type 0) → Ending → (old new : Outside) → Type 0
ServeEnds links clock (end.NotOpened fault) old new = JournalMissed fault old new
ServeEnds links clock end.Done old new = FarmServed links clock end.Done old new
ServeEnds links clock end.NetFault old new = FarmServed links clock end.NetFault old new
ServeEnds links clock end.WriteFault old new = FarmServed links clock end.WriteFault old new
ServeEnds links clock end.Memory old new = FarmServed links clock end.Memory old new

-- Where neither the network nor the output nor the disk fails, and the journal holds a history, the service is done,
-- but for running out of memory.
abbrev pub ServeCompletes : Ending → (old new : Outside) → Type 0
ServeCompletes ending old new =
    ¬ Rose old.network.faults new.network.faults → ¬ Rose old.output.faults new.output.faults
    → ¬ Rose old.disk.faults new.disk.faults → old.disk.tells ≡ true
    → (history : List Entry) → StandsFor history old.disk.told.bytes
    → (ending ≡ end.Done) ⊎ ((ending ≡ end.Memory) ⊎ (ending ≡ end.NotOpened opening.Memory))
