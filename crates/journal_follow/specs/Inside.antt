-- How a follower keeps its history: nothing yet; the entries of a store that was begun; or a store.
use Rattle.std.specs.Prelude.{◌≡◌, ◌≢◌, ◌≤◌, ◌<◌, ◌+◌, ◌-◌, ◌++◌, length, take, drop, ℕ, Bool, true, false, List, []}
use Rattle.std.specs.Prelude.{Option, Some, None, Result, Ok, Err, ⊤}
use Rattle.farm_disk.specs.Images.{DiskState, EachImage, LeavesOnly}
use Rattle.farm_entry.specs.Legal.{IsLegal}
use Rattle.farm_entry.specs.declared.entry.Entry.{Entry}
use Rattle.farm_journal.specs.Created.{IsUnborn}
use Rattle.farm_store.specs.Admitted.{IsStuckAt}
use Rattle.farm_store.specs.Founded.{IsUnbornOr}
use Rattle.farm_store.specs.State.{IsStored, StoreState}
use Rattle.common_types.specs.Counts.{Rose}
use Rattle.journal_follow.specs.Page.{IsForeignAt, MayBeHeld, entries_past}
use Rattle.journal_follow.specs.Taking.{Held, IsDecided}
use Rattle.journal_follow.specs.Shown.{ShowsLeft}
use Rattle.journal_follow.specs.State.{FollowerState, IsSameDisk}
use Rattle.journal_follow.specs.Taken.{IsSoundly, OnMemory}
use Rattle.journal_follow.specs.declared.fault.FollowFault.{FollowFault}
use Rattle.journal_follow.specs.declared.fault.FollowFault.TheVariants as fault
use Rattle.journal_follow.specs.declared.place.Place.{Place}
use Rattle.journal_follow.specs.declared.place.Place.TheVariants as place

-- a read finds nothing created, and neither does any crash
pub record IsUnbornDisk (disk : DiskState) : Type 0 where
  pub reads : IsUnborn disk.bytes
  pub images : EachImage disk.steps IsUnborn

-- nothing, or the journal of these entries, in each image and in what a read gives
pub record IsBegunDisk (entries : List Entry) (disk : DiskState) : Type 0 where
  pub reads : IsUnbornOr entries disk.bytes
  pub images : EachImage disk.steps (IsUnbornOr entries)

module _ {D : Type 0} (tells : D → Bool) (told : D → DiskState) (count : D → ℕ) where
  -- a follower over a disk
  abbrev pub on_disk : D → (history pending : List Entry) → FollowerState
  on_disk disk history pending = record {
    held = record { history = history; pending = pending };
    tells = tells disk;
    disk = told disk;
    count = count disk;
  }

  abbrev pub place_state : Place D → FollowerState
  place_state (place.Unborn disk) = on_disk disk [] []
  place_state (place.Begun begun) = on_disk begun.disk [] begun.entries
  place_state (place.Open store) = on_disk store.disk store.history store.pending

  -- while a call has the place in its hands, nothing is told
  abbrev pub follower_state : Option (Place D) → FollowerState
  follower_state (Some p) = place_state p
  follower_state None = record {
    held = record { history = []; pending = [] };
    tells = false;
    disk = record { bytes = []; steps = [] };
    count = 0;
  }

  -- what holds of a store at any time
  pub record IsOpen (store : StoreState D) : Type 0 where
    pub legal : IsLegal (store.history ++ store.pending)
    pub stored : tells store.disk ≡ true → IsStored store.history store.pending (told store.disk)

  -- what holds of each place
  abbrev pub IsPlace : Place D → Type 0
  IsPlace (place.Unborn disk) = tells disk ≡ true → IsUnbornDisk (told disk)
  IsPlace (place.Begun begun) =
      IsLegal begun.entries × (tells begun.disk ≡ true → IsBegunDisk begun.entries (told begun.disk))
  IsPlace (place.Open store) = IsOpen store

  abbrev pub IsFollower : Option (Place D) → Type 0
  IsFollower (Some p) = IsPlace p
  IsFollower None = ⊥

-- a fault of a repair
abbrev pub IsOfRepair : FollowFault → Type 0
IsOfRepair (fault.StoreFault before after) = ⊤
IsOfRepair (fault.Damaged o) = ⊤
IsOfRepair fault.Memory = ⊤
IsOfRepair other = ⊥

-- what a repair comes to: it is decided what is held, or everything is as before
abbrev pub Repairs : Result (Unit {0}) FollowFault → (old new : Held) → Type 0
Repairs (Ok done) old new = IsDecided old new.history × (new.pending ≡ [])
Repairs (Err f) old new = IsOfRepair f × (old.pending ≢ []) × (new ≡ old)

-- What storing entries comes to, behind a history with nothing pending, of which the first has this place.
abbrev pub Stores : (tells : Bool) → (place : ℕ) → (entries H : List Entry) → Result (Unit {0}) FollowFault → Held → Type 0
Stores tells place entries H (Ok done) new =
    MayBeHeld (H ++ entries) × (new ≡ record { history = H ++ entries; pending = [] })
Stores tells place entries H (Err (fault.Foreign p)) new =
    (new ≡ record { history = H; pending = [] }) × (i : ℕ) × (p ≡ place + i) × IsStuckAt H entries i
Stores tells place entries H (Err (fault.StoreFault before after)) new =
    MayBeHeld (H ++ entries) × (new ≡ record { history = H; pending = entries })
Stores tells place entries H (Err (fault.Damaged o)) new =
    (tells ≡ false) × (o ≡ 0) × (new ≡ record { history = H; pending = [] })
Stores tells place entries H (Err fault.Memory) new = new ≡ record { history = H; pending = [] }
Stores tells place entries H answer new = ⊥

-- the entries of a page past those held, where the others are the ones held
pub record IsPast (H : List Entry) (from : ℕ) (page past : List Entry) : Type 0 where
  pub begins : from ≤ length H + 1
  pub is : past ≡ entries_past H (from - 1) page
  pub same : take (length H - (from - 1)) page ≡ take (length page) (drop (from - 1) H)

-- why there are none
abbrev pub IsRefused : (H : List Entry) → (from : ℕ) → (page : List Entry) → FollowFault → Type 0
IsRefused H from page (fault.Gap first have) = (first ≡ from) × (have ≡ length H) × (have + 1 < from)
IsRefused H from page (fault.Foreign p) = (from ≤ length H + 1) × IsForeignAt H (from - 1) page p
IsRefused H from page answer = ⊥

-- a fault of the disk tells a count from earlier on and the one after the call, in which the count rose
abbrev pub HasCountFrom : {T : Type 0} → (start : ℕ) → Result T FollowFault → (first last : ℕ) → Type 0
HasCountFrom start (Err (fault.StoreFault before after)) first last = (before ≡ start) × (after ≡ last) × Rose first last
HasCountFrom start answer first last = ⊤

-- A repair, where a fault of the disk is counted from `before` on. Where nothing was pending, nothing was done.
pub record Mends (before : ℕ) (result : Result (Unit {0}) FollowFault) (old new : FollowerState) : Type 0 where
  pub same : new.tells ≡ old.tells
  pub repairs : Repairs result old.held new.held
  pub idle : old.held.pending ≡ [] → IsSameDisk old new
  pub any_moment : old.tells ≡ true → LeavesOnly old.disk new.disk (ShowsLeft old.held new.held)
  pub soundly : old.tells ≡ true → IsSoundly result
  pub memory : OnMemory result (old.held.history ≡ [])
  pub cause : HasCountFrom before result old.count new.count
  pub never_falls : old.count ≤ new.count

-- Storing entries while nothing was pending, of which the first has this place, where a fault of the disk is counted
-- from `before` on.
pub record Puts (before place : ℕ) (entries : List Entry) (result : Result (Unit {0}) FollowFault)
    (old new : FollowerState) : Type 0 where
  pub same : new.tells ≡ old.tells
  pub stores : Stores old.tells place entries old.held.history result new.held
  pub any_moment : old.tells ≡ true → LeavesOnly old.disk new.disk (ShowsLeft old.held new.held)
  pub cause : HasCountFrom before result old.count new.count
  pub never_falls : old.count ≤ new.count
