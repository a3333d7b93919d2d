-- What was acknowledged, and since when each crash leaves it.
use Rattle.std.specs.Prelude.{ℕ, ◌≤◌, Bool, true, false, List, ⊤}
use Rattle.connection_laws.specs.Told.{Saying}
use Rattle.farm_disk.specs.Images.{DiskState, LeavesSince}
use Rattle.farm_entry.specs.declared.entry.Entry.{Entry}
use Rattle.link_io.specs.Notes.{Note}
use Rattle.common_types.specs.Rows.{IsAmong}
use Rattle.shared_farm.specs.Logs.{HoldsAll}

-- Before the byte at this place was put to a link, the link took a note of a moment of the disk that was over, and each
-- image that a crash may leave at any moment from then on holds this history.
pub record IsAcknowledged (disk : DiskState) (notes : List Note) (place : ℕ) (H : List Entry) : Type 0 where
  pub note : Note
  pub noted : IsAmong notes note
  pub before : note.put ≤ place
  pub since : LeavesSince note.moment disk.steps (HoldsAll H)

-- the same where the disk tells what it holds
abbrev pub acknowledged_by : (tells : Bool) → DiskState → List Note → Saying
acknowledged_by true disk notes place H = IsAcknowledged disk notes place H
acknowledged_by false disk notes place H = ⊤
