-- The rule of the table, which holds between any two steps of all threads together. Each slot is at one of five stages,
-- which its word names.
use Rattle.std.specs.Prelude.{◌≡◌, ◌<◌, ◌==◌, ℕ, ⊤, List, length, slice_index, slice_index_or, if◌then◌else◌}
use Rattle.std.specs.Prelude.{Option, Some, None}
use mathlib.Core.Option.{some, none}
use lib.ListN.{get_elem?}
use Rattle.atomic_table.specs.Table.{State}
use Rattle.farm_board.specs.JobViews.{idle}
use Rattle.farm_board.specs.declared.jobs.TheConstants.{SLOTS}
use Rattle.farm_board.specs.declared.job_steps.TheConstants.{FREE, CLAIMED, POSTED, TAKEN, ANSWERED}
use Rattle.farm_board.specs.declared.job_view.SeatPart.{SeatPart}
use Rattle.farm_board.specs.declared.job_view.SeatPart.TheVariants.{Idle, Claims, Asks, Helps}
use Rattle.farm_board.specs.declared.job_view.Slot.{Slot}
use Rattle.farm_board.specs.declared.job_view.Slot.TheVariants.{Job, Answer}
use Rattle.farm_board.specs.declared.job_view.View.{View}

-- How far a slot is: nobody uses it; a seat has it for itself; a seat posted a job there; another seat took that job;
-- the answer is there.
pub data Stage (Q A : Type 0) : Type 0 where
  free : Stage Q A
  claimed : (by : ℕ) → Stage Q A
  posted : (by : ℕ) → Q → Stage Q A
  taken : (by helper : ℕ) → Q → Stage Q A
  answered : (by : ℕ) → Q → A → Stage Q A

module _ {Q A : Type 0} where
  -- the word of a slot
  abbrev pub word_at : Stage Q A → ℕ
  word_at free = FREE
  word_at (claimed by) = CLAIMED
  word_at (posted by job) = POSTED
  word_at (taken by helper job) = TAKEN
  word_at (answered by job answer) = ANSWERED

  -- what lies in a slot, or nothing where it is out with a seat
  abbrev pub home_at : Stage Q A → mathlib.Core.Option.Option (Option (Slot Q A))
  home_at free = some None
  home_at (claimed by) = none
  home_at (posted by job) = some (Some (Job job))
  home_at (taken by helper job) = none
  home_at (answered by job answer) = some (Some (Answer answer))

  -- what each seat does with a slot
  abbrev pub part_at : ℕ → Stage Q A → ℕ → SeatPart Q
  part_at slot free seat = Idle
  part_at slot (claimed by) seat = if seat == by then Claims slot else Idle
  part_at slot (posted by job) seat = if seat == by then Asks slot job else Idle
  part_at slot (taken by helper job) seat =
      if seat == by then Asks slot job else if seat == helper then Helps slot job else Idle
  part_at slot (answered by job answer) seat = if seat == by then Asks slot job else Idle

-- the view of a seat, or that of an idle one where there is no such seat
abbrev pub view_of : {K Q : Type 0} → K → List (View K Q) → ℕ → View K Q
view_of key views seat = slice_index_or views seat (idle key)

-- a seat's part as far as it is about a slot
abbrev pub part_with : {Q : Type 0} → ℕ → SeatPart Q → SeatPart Q
part_with slot Idle = Idle
part_with slot (Claims own) = if own == slot then Claims own else Idle
part_with slot (Asks own job) = if own == slot then Asks own job else Idle
part_with slot (Helps own job) = if own == slot then Helps own job else Idle

module _ {K Q A : Type 0} (may : K → Q → Type 0) (says : K → Q → A → Type 0) (key : K) where
  -- what holds of a slot's job and of the answer to it
  abbrev pub IsRight : Stage Q A → Type 0
  IsRight free = ⊤
  IsRight (claimed by) = ⊤
  IsRight (posted by job) = may key job
  IsRight (taken by helper job) = may key job
  IsRight (answered by job answer) = says key job answer

  -- a slot is at some stage: its word says so, that lies in it, and each seat does with it what it does at that stage
  pub record IsSlot (s : State (Option (Slot Q A)) (View K Q)) (slot : ℕ) : Type 0 where
    pub stage : Stage Q A
    pub word : slice_index s.words slot ≡ word_at stage
    pub home : get_elem? s.homes slot ≡ some (home_at stage)
    pub parts : (seat : ℕ) → part_with slot (view_of key s.views seat).part ≡ part_at slot stage seat
    pub right : IsRight stage

  pub record IsKept (s : State (Option (Slot Q A)) (View K Q)) : Type 0 where
    pub words : length s.words ≡ SLOTS
    pub keys : (seat : ℕ) → (view_of key s.views seat).key ≡ key
    pub slots : (slot : ℕ) → slot < SLOTS → IsSlot s slot
