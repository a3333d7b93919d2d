-- What the serving of a connection came to, with all that it kept.
use Rattle.std.specs.Prelude.{ℕ, ◌≡◌, ◌≤◌, ◌==◌, Bool, true, false, List, ◌++◌, length, Some, Result, Ok, Err, if◌then◌else◌, ⊤}
use Rattle.std.specs.Io.KnownBytes.{append_known}
use Rattle.farm_entry.specs.declared.entry.Entry.{Entry}
use Rattle.connection_laws.specs.Moments.{Given}
use Rattle.http_requests.specs.Fronts.{behind}
use Rattle.http_requests.specs.Items.{Item, End, ended, closed}
use Rattle.link_io.specs.Links.{LinkState}
use Rattle.link_io.specs.Notes.{Note, TakesNotes}
use Rattle.link_io.specs.declared.source.TheConstants.{INPUT_LIMIT}
use Rattle.connection_laws.specs.Answers.{interim_of}
use Rattle.connection_laws.specs.Owners.{HoldsMore, Holding, IsOwnedBy, Owned}
use Rattle.connection_laws.specs.Progress.{Progress, IsWithin, progress_after}
use Rattle.connection_laws.specs.Held.{Held, HeldFrom, IsSoFar}
use Rattle.connection_laws.specs.Marks.{Mark}
use Rattle.connection_laws.specs.Outcomes.{Step}
use Rattle.connection_laws.specs.Told.{Saying}
use Rattle.connection_laws.specs.Waiting.{AreWaiting}
use Rattle.connection_laws.specs.declared.served.Served.{Served}
use Rattle.connection_laws.specs.declared.served.ServeFault.{ServeFault}
use Rattle.connection_laws.specs.declared.served.ServeFault.TheVariants.{ReadFault, WriteFault, Memory}
use Rattle.connection_laws.specs.declared.served.Why.{Why}
use Rattle.connection_laws.specs.declared.served.Why.TheVariants as why

-- these bytes were taken from a link between two of its states, these were put to it, and it took notes
pub record HasPassed (old new : LinkState) (taken put : List ℕ) : Type 0 where
  pub takes : new.taken ≡ append_known old.taken taken
  pub puts : new.put ≡ append_known old.put put
  pub notes : TakesNotes old.notes new.notes

-- What a pass and a reader keep of a connection: the places of the entries that its commands recorded are added to the
-- pass's, and what its turns left undecided, and the reader has seen the history of the last totals.
pub record IsKept (start : Progress) (steps : List Step) (mine kept : Holding) (read : List Entry) : Type 0 where
  pub holds : HoldsMore steps mine kept
  pub counted : read ≡ (progress_after start steps).totals

-- why the serving ended, by how the items end
abbrev pub why_of : End → List ℕ → Why
why_of closed taken = why.Close
why_of ended taken = if length taken == INPUT_LIMIT then why.Limit else why.End

-- the connection was served: all is held, and the answer counts the items and says why it ended
pub record IsServed (served : Served) (start : Progress) (final : Mark) (gives : Given → Type 0) (said : Saying)
    (old new : LinkState) (mine kept : Holding) (read : List Entry) : Type 0 where
  pub taken : List ℕ
  pub put : List ℕ
  pub passed : HasPassed old new taken put
  pub most : length taken ≤ INPUT_LIMIT
  pub held : HeldFrom start final gives said taken put new.ended true
  pub keeps : IsKept start held.steps mine kept read
  pub requests : served.requests ≡ length held.items
  pub why_is : served.why ≡ why_of held.is_put.end taken

-- More had to be taken: all items that stand whole in what was taken were answered, none of them closes, and nothing
-- else was put but the interim answer of the item that comes next, where it has one and its head is whole.
pub record IsWaiting (start : Progress) (final : Mark) (gives : Given → Type 0) (said : Saying) (old new : LinkState)
    (mine kept : Holding) (read : List Entry) : Type 0 where
  pub taken : List ℕ
  pub put : List ℕ
  pub items : List Item
  pub steps : List Step
  pub interim : Bool
  pub so_far : IsSoFar start gives said taken put items steps
  pub waits : AreWaiting (behind taken items) interim
  pub passed : HasPassed old new taken (put ++ interim_of interim)
  pub ends : IsWithin (progress_after start steps) final
  pub keeps : IsKept start steps mine kept read

-- what holds where a take failed
abbrev pub OnReadFault : ServeFault → Type 0 → Type 0
OnReadFault ReadFault P = P
OnReadFault WriteFault P = ⊤
OnReadFault Memory P = ⊤

-- The serving stopped on the way: a prefix is held. Where a take failed, all that could be answered by then was, and
-- the interim answer that the next item has was put.
pub record IsStopped (fault : ServeFault) (start : Progress) (final : Mark) (gives : Given → Type 0) (said : Saying)
    (old new : LinkState) (mine kept : Holding) (read : List Entry) : Type 0 where
  pub taken : List ℕ
  pub put : List ℕ
  pub passed : HasPassed old new taken put
  pub most : length taken ≤ INPUT_LIMIT
  pub held : HeldFrom start final gives said taken put new.ended false
  pub keeps : IsKept start held.steps mine kept read
  pub waiting : OnReadFault fault (IsWaiting start final gives said old new mine kept read)

-- What the serving of a connection came to, by its answer: from what its pass and its reader had seen at entry to what
-- the pass has seen at exit, with the moments and counts that may be given, what is said of the answers, the link
-- before and after, the places of the pass before and after, and what the reader has seen at exit.
abbrev pub Serves : Result Served ServeFault → Progress → Mark → (Given → Type 0) → Saying → (old new : LinkState)
    → (mine kept : Holding) → List Entry → Type 0
Serves (Ok served) start final gives said old new mine kept read =
    IsServed served start final gives said old new mine kept read
Serves (Err fault) start final gives said old new mine kept read =
    IsStopped fault start final gives said old new mine kept read

-- whether the whole is held of what was served, or a prefix
abbrev pub is_whole : Result Served ServeFault → Bool
is_whole (Ok served) = true
is_whole (Err fault) = false

-- what is held of a link that tells, with what is said by the notes that it took, and what entries are its own
pub record IsHeldOf (start final : Mark) (gives : Given → Type 0) (said : List Note → Saying) (owned : Owned)
    (link : LinkState) (whole : Bool) : Type 0 where
  pub taken : List ℕ
  pub put : List ℕ
  pub takes : link.taken ≡ Some taken
  pub puts : link.put ≡ Some put
  pub notes : List Note
  pub tells : link.notes ≡ Some notes
  pub held : Held start final gives (said notes) taken put link.ended whole
  pub owns : IsOwnedBy held.steps owned
