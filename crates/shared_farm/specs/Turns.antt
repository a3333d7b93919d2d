-- What one turn at a shared farm came to.
use Rattle.std.specs.Prelude.{◌≡◌, ◌≤◌, ◌<◌, ◌+◌, ◌-◌, ◌⊎◌, ◌++◌, ℕ, Bool, true, false, List, [], length, All, Option, Some, Result, Ok, Err}
use Rattle.std.specs.List.{range_with_len}
use Rattle.atomic_table.specs.Seated.{TableId}
use Rattle.farm_types.specs.declared.moment.Moment.{Moment}
use Rattle.farm_entry.specs.Legal.{IsLegal}
use Rattle.farm_entry.specs.declared.command.Command.{Command}
use Rattle.farm_entry.specs.declared.entry.Entry.{Entry}
use Rattle.farm_entry.specs.declared.lease.LeasedRun.{LeasedRun}
use Rattle.farm_entry.specs.declared.reply.Reply.{Reply}
use Rattle.farm_store.specs.Answering.{CallSays, IsAnswered, IsUnanswered, IsUndecided, IsUnrepaired}
use Rattle.farm_store.specs.Entering.{Enters}
use Rattle.farm_store.specs.Faults.{HasCallCause}
use Rattle.farm_store.specs.State.{StoreState}
use Rattle.farm_entry.specs.declared.answer.Answer.{Answer}
use Rattle.farm_store.specs.declared.asking.Ask.{Ask}
use Rattle.farm_store.specs.declared.asking.CallFault.{CallFault}
use Rattle.farm_store.specs.declared.asking.CallFault.TheVariants as fault
use Rattle.common_types.specs.Prefix.{IsPrefix}
use Rattle.common_types.specs.Rows.{AreAmong}
use Rattle.turn_lock.specs.Known.{IsReady, IsSettled, Known, MayRise, stake_after}
use Rattle.turn_lock.specs.Places.{ArePlaces}
use Rattle.shared_farm.specs.Answered.{FitRecord, own_places}
use Rattle.shared_farm.specs.Errands.{IsErrand, errands_asks}
use Rattle.shared_farm.specs.declared.errand.Errand.{Errand}
use Rattle.shared_farm.specs.declared.sharing.TheConstants.{MOST_PARTS}

-- The disk failed as the new entries of these asks were stored, in one record with those of others where there are any:
-- of batches that may be posted at the farm, fewer than share a record. The history is as the repair left it, and all
-- of them are pending.
pub record IsUndecidedWith {D : Type 0} (lock : TableId) (asks : List Ask) (old new : StoreState D) : Type 0 where
  pub others : List Errand
  pub posted : All (IsErrand lock) others
  pub few : length others < MOST_PARTS
  pub undecided : IsUndecided (asks ++ errands_asks others) old new

-- what a turn with this batch came to, whose record others may share, by what it answers
abbrev pub TurnSays : {D : Type 0} → TableId → List Ask → Result (List Answer) CallFault → (old new : StoreState D)
    → Type 0
TurnSays lock asks (Ok answers) old new = IsAnswered asks answers old new
TurnSays lock asks (Err (fault.Refused cause)) old new = ⊥
TurnSays lock asks (Err (fault.StoreFault before after)) old new =
    IsUnrepaired old new ⊎ IsUndecidedWith lock asks old new
TurnSays lock asks (Err fault.Memory) old new = IsUnanswered old new

-- the disk failed in a call
abbrev pub failed_by : {T : Type 0} → Result T CallFault → Bool
failed_by (Ok answer) = false
failed_by (Err (fault.Refused cause)) = false
failed_by (Err (fault.StoreFault before after)) = true
failed_by (Err fault.Memory) = false

-- The pass was used once, and the store that its turn took had a legal history that begins with all that the caller
-- had seen. Of that store and the one that was given back this holds, and the pass has then seen the latter. The places
-- of the pass are those that it had and those of the entries that this turn recorded. A fault of the disk has counts
-- between those that the caller saw before and after, which are counts of a disk. Where the disk failed, the pass has
-- what is pending now as left undecided by its turn, which fits one record.
pub record IsTurnBy {D T : Type 0} (count : D → ℕ) (Says : (found left : StoreState D) → Type 0)
    (result : Result T CallFault) (old new : Known) : Type 0 where
  pub found : StoreState D
  pub left : StoreState D
  pub used : new.uses ≡ old.uses + 1
  pub took : new.last ≡ record { entries = found.history; count = count found.disk; pending = found.pending }
  pub settled : IsSettled old.pending old.faults (count found.disk) found.pending
  pub legal : IsLegal found.history
  pub begins : IsPrefix old.seen found.history
  pub faults : old.faults ≤ count found.disk
  pub says : Says found left
  pub cause : HasCallCause result (count found.disk) (count left.disk)
  pub seen : new.seen ≡ left.history
  pub pending : new.pending ≡ Some left.pending
  pub faults_seen : new.faults ≡ count left.disk
  pub mine : new.mine ≡ old.mine ++ own_places left
  pub stake : new.stake ≡ stake_after old.stake (failed_by result) left.history left.pending
  pub fit : FitRecord left.pending

-- the turn answered one command at a moment, whose record nobody shares
abbrev pub IsCall : {D : Type 0} → (D → ℕ) → Command → Moment → Result Reply CallFault → (old new : Known) → Type 0
IsCall count command at result old new = IsTurnBy count (CallSays command at result) result old new

-- the turn answered one command, and of its reply gave the run that it hands out, if it does
abbrev pub EntersInTurn : {D : Type 0} → (D → ℕ) → Command → Moment → Result (Option LeasedRun) CallFault
    → (old new : Known) → Type 0
EntersInTurn count command at result old new = IsTurnBy count (Enters command at result) result old new

-- the turn answered a batch
abbrev pub IsTurn : {D : Type 0} → (D → ℕ) → List Ask → Result (List Answer) CallFault → (old new : Known) → Type 0
IsTurn count asks result old new = IsTurnBy count (TurnSays old.lock asks result) result old new

-- All entries that are new since the turn took the store are the caller's own, past what the store's repair found in
-- the history: none or all of what was pending then.
pub record AreOwn (old new : Known) : Type 0 where
  pub repaired : List Entry
  pub found : (repaired ≡ new.last.entries) ⊎ (repaired ≡ new.last.entries ++ new.last.pending)
  pub begins : IsPrefix repaired new.seen
  pub mine : new.mine ≡ old.mine ++ range_with_len (length repaired) (length new.seen - length repaired)

-- the pass was used once, for a turn that gave the store back as it was, and has seen it
pub record IsLook (old new : Known) : Type 0 where
  pub used : new.uses ≡ old.uses + 1
  pub seen : new.seen ≡ new.last.entries
  pub faults : new.faults ≡ new.last.count
  pub pending : new.pending ≡ Some new.last.pending
  pub stake : new.stake ≡ old.stake

-- where the caller saw that nothing was pending, and the disk has not failed since then, nothing was pending when the
-- turn began, and nothing is after it
abbrev pub StaysSettled : (old new : Known) → Type 0
StaysSettled old new =
    old.pending ≡ Some [] → old.faults ≡ new.faults → MayRise new.faults
    → (new.last.pending ≡ []) × (new.pending ≡ Some [])

-- What is kept of a pass at its turn, whatever was done: it is ready again, has seen a legal history that begins with
-- the one that it had seen, and a count of faults that hasn't fallen, its places lie in that history, and it keeps its
-- rows, its parts of the lock, and what it lent and borrowed.
pub record KeepsPass (lock : TableId) (old new : Known) : Type 0 where
  pub ready : IsReady lock new
  pub settled : StaysSettled old new
  pub longer : IsPrefix old.seen new.seen
  pub legal : IsLegal new.seen
  pub places : ArePlaces 0 (length new.seen) new.mine
  pub faults : old.faults ≤ new.faults
  pub rows : AreAmong old.rows new.rows
  pub parts : new.stake.parts ≡ old.stake.parts
  pub lending : new.stake.lending ≡ old.stake.lending
