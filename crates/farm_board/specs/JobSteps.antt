-- What each kind of step tells the caller that makes it, of its seat before and after.
use Rattle.std.specs.Prelude.{◌≡◌, ◌∷◌, [], ℕ, Option, Some, None}
use Rattle.atomic_table.specs.Table.{Step, Me}
use Rattle.farm_board.specs.JobViews.{idle, claiming, asking, helping}
use Rattle.farm_board.specs.declared.job_steps.TheConstants.{FREE, POSTED, ANSWERED}
use Rattle.farm_board.specs.declared.job_view.Slot.{Slot}
use Rattle.farm_board.specs.declared.job_view.Slot.TheVariants.{Job, Answer}
use Rattle.farm_board.specs.declared.job_view.View.{View}

-- what a kind of step tells: of the step, the seat before, the number found and the seat after
abbrev pub Tells : Type 0 → Type 0 → Type 0 → Type 1
Tells K Q A =
    Step (Option (Slot Q A)) → Me (Option (Slot Q A)) (View K Q) → ℕ → Me (Option (Slot Q A)) (View K Q) → Type 0

module _ {K Q A : Type 0} where
  -- the seat is as it was
  abbrev pub Begins : Tells K Q A
  Begins step me found after = after ≡ me

  -- where the slot was free, the seat has it, empty
  abbrev pub Reserves : Tells K Q A
  Reserves step me found after =
      (found ≡ FREE → after ≡ (claiming me.0.key step.word, (step.word, None) ∷ me.1))
      × (¬ (found ≡ FREE) → after ≡ me)

  -- the job in the seat's hands is posted
  abbrev pub Posts : Tells K Q A
  Posts step me found after =
      (job : Q) × (me.1 ≡ (step.word, Some (Job job)) ∷ []) × (after ≡ (asking me.0.key step.word job, []))

  -- where a job was posted, the seat has taken it
  abbrev pub Takes : (K → Q → Type 0) → Tells K Q A
  Takes may step me found after =
      (found ≡ POSTED → (job : Q) × may me.0.key job
      × (after ≡ (helping me.0.key step.word job, (step.word, Some (Job job)) ∷ me.1)))
      × (¬ (found ≡ POSTED) → after ≡ me)

  -- the seat has given the slot, and does nothing any more
  abbrev pub Ends : Tells K Q A
  Ends step me found after = after ≡ (idle me.0.key, [])

  -- where the answer to the seat's job was there, the seat has taken it
  abbrev pub Fetches : (K → Q → A → Type 0) → Tells K Q A
  Fetches says step me found after =
      (found ≡ ANSWERED → (job : Q) × (answer : A) × (me.0 ≡ asking me.0.key step.word job)
      × says me.0.key job answer
      × (after ≡ (claiming me.0.key step.word, (step.word, Some (Answer answer)) ∷ me.1)))
      × (¬ (found ≡ ANSWERED) → after ≡ me)

  -- where the seat's job was still there, the seat has taken it back
  abbrev pub Retracts : Tells K Q A
  Retracts step me found after =
      (found ≡ POSTED → (job : Q) × (me.0 ≡ asking me.0.key step.word job)
      × (after ≡ (claiming me.0.key step.word, (step.word, Some (Job job)) ∷ me.1)))
      × (¬ (found ≡ POSTED) → after ≡ me)
