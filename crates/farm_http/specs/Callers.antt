-- What the caller of a connection knows of the farm.
use Rattle.std.specs.Prelude.{◌≡◌, List}
use Rattle.connection_laws.specs.Marks.{Mark}
use Rattle.connection_laws.specs.Outcomes.{Step}
use Rattle.connection_laws.specs.Told.{IsNoted, Saying}
use Rattle.link_io.specs.Notes.{Note}
use Rattle.connection_laws.specs.Owners.{HoldsMore, holding_of}
use Rattle.connection_laws.specs.Progress.{Progress, IsWithin, progress_after}
use Rattle.turn_lock.specs.Known.{Known}
use Rattle.farm_entry.specs.declared.entry.Entry.{Entry}
use Rattle.farm_http.specs.declared.caller.Caller.{Caller}

-- what is seen of a farm by a pass, and by a reader that has seen a history
abbrev pub mark_of : Known → (read : List Entry) → Mark
mark_of pass read = record { seen = pass.seen; totals = read; faults = pass.faults }

-- what a caller knows of the farm: its pass, and the history that its reader has seen
pub record CallerState : Type 0 where
  pub pass : Known
  pub reader : List Entry

abbrev pub state_of : {B : Type 0} → Caller B → CallerState
state_of caller = record { pass = caller.pass; reader = caller.reader }

-- what is known by the rows of a pass and the notes of a link
abbrev pub noted_by : Known → List Note → Saying
noted_by pass notes = IsNoted pass.rows notes

-- Items came to these steps: all that is carried past them is within what the pass and the reader have seen, the pass
-- holds what their commands recorded and left undecided, too, and the reader has seen the history of the last totals.
pub record IsAfter (c : Progress) (steps : List Step) (old new : CallerState) : Type 0 where
  pub within : IsWithin (progress_after c steps) (mark_of new.pass new.reader)
  pub holds : HoldsMore steps (holding_of old.pass) (holding_of new.pass)
  pub counted : new.reader ≡ (progress_after c steps).totals
