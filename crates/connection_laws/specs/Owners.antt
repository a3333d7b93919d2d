-- Whose the entries of a history are, by what the items of connections came to.
use Rattle.std.specs.Prelude.{◌≡◌, ◌⊎◌, ◌≤◌, ◌<◌, ◌++◌, ℕ, List, [], ◌∷◌, length, ⊤}
use Rattle.farm_entry.specs.declared.entry.Entry.{Entry}
use Rattle.farm_store.specs.Sizes.{entries_size}
use Rattle.farm_store.specs.declared.asking.TheConstants.{MAX_RECORD_BYTES}
use Rattle.turn_lock.specs.Known.{Known, WasPending}
use Rattle.turn_lock.specs.Places.{ArePlaces, IsOneOf, both_places}
use Rattle.turn_lock.specs.declared.view.Lending.{Lending}
use Rattle.turn_lock.specs.declared.view.Undecided.{Undecided}
use Rattle.connection_laws.specs.Outcomes.{ItemOutcome, faulted, misread, answered, counted, copied, failed, failed_too, unread, uncalled, Step}
use Rattle.connection_laws.specs.Progress.{recorded_places}

-- what entries are known to be a connection's, or several connections' together: the places of those that its commands
-- recorded, in their order, and what its turns left undecided in which the disk failed
pub record Owned : Type 0 where
  pub places : List ℕ
  pub undecided : List Undecided

-- none
abbrev pub none_owned : Owned
none_owned = record { places = []; undecided = [] }

-- those of two together
abbrev pub both_owned : Owned → Owned → Owned
both_owned a b = record { places = both_places a.places b.places; undecided = a.undecided ++ b.undecided }

-- what a pass holds: how many parts of the farm it has, what it lent and borrowed, and what entries are known to be its
-- own
pub record Holding : Type 0 where
  pub parts : ℕ
  pub lending : Lending
  pub owned : Owned

abbrev pub holding_of : Known → Holding
holding_of pass = record {
  parts = pass.stake.parts;
  lending = pass.stake.lending;
  owned = record { places = pass.mine; undecided = pass.stake.undecided };
}

-- a turn that left this undecided is the one in which the disk failed by what an item came to: behind the history at
-- which it failed no more is pending than fits one record
abbrev pub IsLeftBy : ItemOutcome → Undecided → Type 0
IsLeftBy (faulted f) u = ⊥
IsLeftBy (misread f) u = ⊥
IsLeftBy (answered H ask a) u = ⊥
IsLeftBy (counted H) u = ⊥
IsLeftBy (copied H from) u = ⊥
IsLeftBy (failed H ask before count) u = (u.entries ≡ H) × (entries_size u.pending ≤ MAX_RECORD_BYTES)
IsLeftBy (failed_too ask) u = ⊥
IsLeftBy unread u = ⊥
IsLeftBy (uncalled H ask) u = ⊥

-- one of these steps is of such an item
abbrev pub IsLeftIn : List Step → Undecided → Type 0
IsLeftIn [] u = ⊥
IsLeftIn (step ∷ steps) u = IsLeftBy step.outcome u ⊎ IsLeftIn steps u

-- each of these was left so
abbrev pub AreLeftIn : List Step → List Undecided → Type 0
AreLeftIn steps [] = ⊤
AreLeftIn steps (u ∷ undecided) = IsLeftIn steps u × AreLeftIn steps undecided

-- These steps recorded the entries at these places, and turns of theirs left this undecided.
pub record IsOwnedBy (steps : List Step) (owned : Owned) : Type 0 where
  pub places : owned.places ≡ recorded_places steps
  pub undecided : AreLeftIn steps owned.undecided

-- what the steps came to was added to what a pass held
pub record HoldsMore (steps : List Step) (old new : Holding) : Type 0 where
  pub parts : new.parts ≡ old.parts
  pub lending : new.lending ≡ old.lending
  pub places : new.owned.places ≡ old.owned.places ++ recorded_places steps
  pub newer : List Undecided
  pub undecided : new.owned.undecided ≡ newer ++ old.owned.undecided
  pub left : AreLeftIn steps newer

-- The entry at each place of a history from here on was recorded by a command of one of the connections that own these;
-- or it was pending in a turn of one of them in which the disk failed, and all that was pending then is in the history.
abbrev pub AreAllOwned : Owned → (from : ℕ) → List Entry → Type 0
AreAllOwned owned from history =
    (place : ℕ) → from ≤ place → place < length history
    → IsOneOf owned.places place ⊎ WasPending owned.undecided history place
