-- What preparing a command answers, by what the command comes to.
use Rattle.std.specs.Prelude.{◌≡◌, ℕ, List, [], ◌∷◌, ◌++◌, length, slice_get, Option, Some, None, Result, Ok, Err}
use Rattle.farm_types.specs.declared.moment.Moment.{Moment}
use Rattle.farm_entry.specs.Decision.{decide}
use Rattle.farm_entry.specs.Legal.{command_of}
use Rattle.farm_entry.specs.Reply.{reply_at}
use Rattle.farm_entry.specs.declared.decision.Decision.{Decision}
use Rattle.farm_entry.specs.declared.decision.Decision.TheVariants as decision
use Rattle.farm_entry.specs.declared.command.Command.{Command}
use Rattle.farm_entry.specs.declared.entry.Entry.{Entry}
use Rattle.farm_entry.specs.declared.lease.LeasedRun.{LeasedRun}
use Rattle.farm_entry.specs.declared.reply.Reply.{Reply}
use Rattle.farm_entry.specs.declared.reply.Reply.TheVariants.{Leased}
use Rattle.farm_core.specs.declared.prepared.CoreFault.{CoreFault}
use Rattle.farm_core.specs.declared.prepared.Prepared.{Prepared}
use Rattle.farm_core.specs.declared.prepared.Prepared.TheVariants.{Repeat, Shown, New}

-- the entry at a place is one that a command made
pub record IsOfCommand (H : List Entry) (place : ℕ) : Type 0 where
  pub entry : Entry
  pub there : slice_get H place ≡ Some entry
  pub command : Command
  pub named : command_of entry.what ≡ Some command

-- what a command that isn't refused is answered: the first reply to it again, what it shows, or its entry with the
-- reply that the entry has when it comes next
abbrev pub IsPrepared : List Entry → Command → Moment → Prepared → Type 0
IsPrepared H q m (Repeat r) = (place : ℕ) × (decide H q m ≡ decision.Repeat place) × (reply_at H place ≡ Some r)
IsPrepared H q m (Shown r) = decide H q m ≡ decision.Show r
IsPrepared H q m (New e r) = (decide H q m ≡ decision.New e) × (reply_at (H ++ e ∷ []) (length H) ≡ Some r)

-- the entries that may be committed once a command was prepared: its own, or none
abbrev pub ready_after : Result Prepared CoreFault → List Entry
ready_after (Ok (New e r)) = e ∷ []
ready_after (Ok _) = []
ready_after (Err f) = []

-- the run that a reply hands out, if it does
abbrev pub handed_out : Reply → Option LeasedRun
handed_out (Leased run search stage position commit test deadline) =
    Some (record { run = run; search = search; stage = stage; position = position; deadline = deadline })
handed_out _ = None

-- the run that the reply of the entry at a place hands out, if it does
abbrev pub IsRunAt : List Entry → (place : ℕ) → Option LeasedRun → Type 0
IsRunAt H place run = (r : Reply) × (reply_at H place ≡ Some r) × (run ≡ handed_out r)

-- the run that the reply hands out, if it does, to a command that comes to this decision at a history
abbrev pub IsHandedOut : List Entry → Decision → Option LeasedRun → Type 0
IsHandedOut H (decision.Repeat place) run = IsRunAt H place run
IsHandedOut H (decision.Show page) run = run ≡ handed_out page
IsHandedOut H (decision.New e) run = IsRunAt (H ++ e ∷ []) (length H) run
IsHandedOut H (decision.Refuse cause) run = ⊥
