-- What the value in the lock round the network keeps, and what it comes to.
use Rattle.std.specs.Prelude.{◌≡◌, ◌⊎◌, ◌+◌, ◌<◌, ◌≤◌, ◌++◌, ℕ, List, [], true, false, drop, length, take, Option, Some, IfSome}
use Rattle.connection_laws.specs.Marks.{Mark, Follows, mark_with}
use Rattle.connection_laws.specs.Owners.{AreAllOwned, Owned}
use Rattle.connection_laws.specs.Told.{Saying}
use Rattle.farm_entry.specs.declared.entry.Entry.{Entry}
use Rattle.farm_http.specs.Callers.{mark_of, noted_by}
use Rattle.farm_store.specs.State.{StoreState}
use Rattle.farm_types.specs.declared.moment.Moment.{Moment}
use Rattle.common_types.specs.Counts.{Rose}
use Rattle.link_io.specs.Notes.{Note}
use Rattle.link_io.specs.Events.{NetworkEvent}
use Rattle.turn_lock.specs.Known.{Known, IsReady, all_parts, first_stake}
use Rattle.turn_lock.specs.Loans.{AreOut}
use Rattle.turn_lock.specs.Places.{ArePlaces}
use Rattle.turn_lock.specs.declared.view.Lending.{Lending}
use Rattle.turn_lock.specs.declared.view.Loan.{Loan}
use Rattle.farm_serve.specs.Entries.{AtEntry, start_of}
use Rattle.farm_serve.specs.Gained.{accepts_of, links_of, returns_of, last_ended, has_failed, AreAccepts, AreHeldBack}
use Rattle.outside_seen.specs.Outside.{NetworkSeen}
use Rattle.farm_serve.specs.declared.standing.ServeState.{ServeState}

-- what is seen of a farm by its store
abbrev pub store_mark : {D : Type 0} → (D → ℕ) → StoreState D → Mark
store_mark count store = mark_with store.history (count store.disk)

-- The events that the network gained since entry: the accepts that were made, how the last one ended and whether one
-- failed are those of the standing, and nothing else was asked of the network; so many links are out, and each link
-- taken back is held for what was lent to it and what was seen since, with this said of its answers by the notes that
-- it took; these entries are theirs, and these loans are those of the links that are out.
pub record IsGained (a : AtEntry) (clock : Moment → Type 0) (said : List Note → Saying) (seen : Mark) (owned : Owned)
    (lending : Lending) (out : ℕ) (s : ServeState) (before : List NetworkEvent) (now : Option (List NetworkEvent))
    : Type 0 where
  pub gained : List NetworkEvent
  pub is : now ≡ Some (gained ++ before)
  pub accepts : accepts_of gained + s.left ≡ a.links
  pub last : last_ended gained ≡ s.ended
  pub asked : AreAccepts gained
  pub faults : has_failed gained ≡ s.failed
  pub links : links_of gained ≡ returns_of gained + out
  pub loans : List Loan
  pub are_out : AreOut lending loans
  pub held : AreHeldBack (start_of a) seen clock said s.short owned loans gained

-- what entries are the links' that were taken back, by the pass that was joined with theirs: all that it left undecided
-- but what the first pass of the farm has from its start on
abbrev pub owned_by : Known → Owned
owned_by pass = record { places = pass.mine; undecided = drop 2 pass.stake.undecided }

-- that by a pass that was joined with theirs, and by what readers have seen together
abbrev pub IsGainedBy : AtEntry → (Moment → Type 0) → Known → (read : List Entry) → (out : ℕ) → ServeState
    → List NetworkEvent → Option (List NetworkEvent) → Type 0
IsGainedBy a clock pass read out s before now =
    IsGained a clock (noted_by pass) (mark_of pass read) (owned_by pass) pass.stake.lending out s before now

-- The held pass has all parts of the farm but those of the links that are out, and more than accepts are left; and it
-- has the key.
pub record IsStaked (a : AtEntry) (pass : Known) (out left : ℕ) : Type 0 where
  pub whole : pass.stake.parts + out ≡ all_parts
  pub enough : left < pass.stake.parts
  pub places : ArePlaces 0 (length pass.seen) pass.mine
  pub begun : take 2 pass.stake.undecided ≡ (first_stake a.first []).undecided
  pub key : pass.stake.lending.keys ≡ 1

-- what the value in the lock keeps: its pass, what readers have seen together, how many links are out, the standing,
-- and what the network told and its count
pub record IsServing (a : AtEntry) (clock : Moment → Type 0) (pass : Known) (read : List Entry) (out : ℕ)
    (s : ServeState)
    (now : Option (List NetworkEvent)) (count : ℕ) : Type 0 where
  pub ready : IsReady a.lock pass
  pub begins : Follows (start_of a) (mark_of pass read)
  pub faults : a.count ≤ count
  pub rose : s.failed ≡ true → Rose a.count count
  pub gained : IfSome a.told (λ before. IsGainedBy a clock pass read out s before now)

-- Of the events that a network gained in serving: they hold so many accepts, or fewer of which the last one answered
-- that no more will come, unless memory ran out, and the network was asked for nothing else; as many links were taken
-- back as were given; each is held from what was lent to it to what was seen when it was taken back, with this said of
-- its answers by the notes that it took; the standing says whether an accept failed; and each entry behind the history
-- of the first mark is one of these links'.
pub record AreServed (start final : Mark) (clock : Moment → Type 0)
    (said : List Note → Saying) (links : ℕ) (s : ServeState)
    (before : List NetworkEvent) (now : Option (List NetworkEvent)) : Type 0 where
  pub gained : List NetworkEvent
  pub is : now ≡ Some (gained ++ before)
  pub accepts : s.short ≡ false
      → (accepts_of gained ≡ links) ⊎ ((accepts_of gained < links) × (last_ended gained ≡ true))
  pub asked : AreAccepts gained
  pub back : links_of gained ≡ returns_of gained
  pub owned : Owned
  pub held : AreHeldBack start final clock said s.short owned [] gained
  pub places : ArePlaces 0 (length final.seen) owned.places
  pub whose : AreAllOwned owned (length start.seen) final.seen
  pub faults : has_failed gained ≡ s.failed

-- what serving came to, from the mark at entry to that at exit
pub record ComesTo (start final : Mark) (clock : Moment → Type 0) (said : List Note → Saying) (links : ℕ)
    (s : ServeState)
    (old new : NetworkSeen) : Type 0 where
  pub follows : Follows start final
  pub served : IfSome old.told (λ before. AreServed start final clock said links s before new.told)
  pub rose : s.failed ≡ true → Rose old.faults new.faults
  pub never_falls : old.faults ≤ new.faults
