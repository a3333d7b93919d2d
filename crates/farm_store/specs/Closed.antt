-- What closing a farm on a disk comes to.
use Rattle.std.specs.Prelude.{◌≡◌, ◌+◌, ℕ, ⊤, true, false, length, List, [], ◌∷◌, ◌++◌, Result, Ok, Err, if◌then◌else◌}
use Rattle.farm_types.specs.declared.moment.Moment.{Moment}
use Rattle.common_types.specs.Counts.{Rose}
use Rattle.farm_entry.specs.Closing.{is_busy}
use Rattle.farm_entry.specs.Decision.{moment_used}
use Rattle.farm_entry.specs.History.{is_closed}
use Rattle.farm_entry.specs.declared.entry.Entry.{Entry}
use Rattle.farm_entry.specs.declared.entry.What.TheVariants as what
use Rattle.farm_journal.specs.declared.fault.JournalFault.{JournalFault}
use Rattle.farm_journal.specs.declared.fault.JournalFault.TheVariants as journal
use Rattle.farm_store.specs.State.{IsAsBefore, StoreState}
use Rattle.farm_store.specs.declared.closing.CloseFault.{CloseFault}
use Rattle.farm_store.specs.declared.closing.CloseFault.TheVariants as fault

-- the closing of a farm that is asked for at a moment: moments never fall
abbrev pub closing_at : List Entry → Moment → Entry
closing_at H m = record { at = moment_used H m; what = what.Closed }

-- the history of a farm once it is closed: a closed one stays
abbrev pub after_closing : List Entry → Moment → List Entry
after_closing H m = if is_closed H then H else H ++ closing_at H m ∷ []

-- the farm is closed: it was before, or it wasn't busy and its closing is stored
pub record IsClosedNow {D : Type 0} (at : Moment) (old new : StoreState D) : Type 0 where
  pub idle : is_closed old.history ≡ false → is_busy old.history ≡ false
  pub history : new.history ≡ after_closing old.history at
  pub recorded : length new.history ≡ length old.history + new.recorded
  pub decided : new.pending ≡ []

-- the farm is busy: nothing was stored, and the disk wasn't asked
pub record IsBusyNow {D : Type 0} (old new : StoreState D) : Type 0 where
  pub unclosed : is_closed old.history ≡ false
  pub busy : is_busy old.history ≡ true
  pub history : new.history ≡ old.history
  pub decided : new.pending ≡ []
  pub none : new.recorded ≡ 0
  pub disk : new.disk ≡ old.disk

-- the disk failed as the closing was stored: it is pending
pub record IsUndecidedNow {D : Type 0} (at : Moment) (old new : StoreState D) : Type 0 where
  pub unclosed : is_closed old.history ≡ false
  pub idle : is_busy old.history ≡ false
  pub history : new.history ≡ old.history
  pub pending : new.pending ≡ closing_at old.history at ∷ []
  pub none : new.recorded ≡ 0

-- why a farm was not closed, where its journal failed
abbrev pub as_close : JournalFault → CloseFault
as_close (journal.StoreFault before after) = fault.StoreFault before after
as_close journal.Memory = fault.Memory

-- a fault of the disk tells the disk's counts before the call and after it, and the count rose
abbrev pub HasCloseCause : Result (Unit {0}) CloseFault → (first last : ℕ) → Type 0
HasCloseCause (Err (fault.StoreFault before after)) first last = (before ≡ first) × (after ≡ last) × Rose first last
HasCloseCause _ first last = ⊤

-- what holds where the call came to an answer: the farm is closed, or busy
abbrev pub OnClosedOrBusy : Result (Unit {0}) CloseFault → Type 0 → Type 0
OnClosedOrBusy (Ok _) P = P
OnClosedOrBusy (Err fault.Busy) P = P
OnClosedOrBusy (Err _) P = ⊤

-- what a call came to in which a farm was to be closed, where nothing was pending, by its answer
abbrev pub Closes : {D : Type 0} → Moment → Result (Unit {0}) CloseFault → (old new : StoreState D) → Type 0
Closes at (Ok _) old new = IsClosedNow at old new
Closes at (Err fault.Busy) old new = IsBusyNow old new
Closes at (Err (fault.StoreFault before after)) old new = IsUndecidedNow at old new
Closes at (Err fault.Memory) old new = IsAsBefore old new
