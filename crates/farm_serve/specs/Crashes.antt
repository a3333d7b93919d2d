-- What a crash leaves at each moment of a service.
use Rattle.std.specs.Prelude.{◌≡◌, ◌⊎◌, ◌≤◌, ◌++◌, ℕ, List, [], ◌∷◌, ⊤}
use Rattle.connection_laws.specs.Marks.{Mark}
use Rattle.farm_disk.specs.Images.{DiskState, LeavesSince, moment}
use Rattle.farm_entry.specs.declared.entry.Entry.{Entry}
use Rattle.farm_journal.specs.ReadsOnly.{ReadsOnly}
use Rattle.farm_store.specs.Bytes.{StandsFor}
use Rattle.common_types.specs.Counts.{Rose}
use Rattle.common_types.specs.Prefix.{IsPrefix}
use Rattle.shared_farm.specs.Logs.{HoldsAll}
use Rattle.shared_farm.specs.Rests.{AreTurns, Rest}

-- The bytes stand for a history that begins with that of the first mark, and with which that of the last mark begins;
-- or for such a history with entries behind it that a fault of the disk left undecided, where the disk failed between
-- the marks.
pub record StandsWithin (first last : Mark) (bytes : List ℕ) : Type 0 where
  pub history : List Entry
  pub undecided : List Entry
  pub stands : StandsFor (history ++ undecided) bytes
  pub begins : IsPrefix first.seen history
  pub within : IsPrefix history last.seen
  pub failed : (undecided ≡ []) ⊎ Rose first.faults last.faults

-- the history of a rest begins the one now, and each image of each moment since the rest holds all of it
pub record IsKept (history : List Entry) (disk : DiskState) (rest : Rest) : Type 0 where
  pub begins : IsPrefix rest.history history
  pub each : LeavesSince (moment rest.told) disk.steps (HoldsAll rest.history)

-- that of each rest
abbrev pub AreKept : List Entry → DiskState → List Rest → Type 0
AreKept history disk [] = ⊤
AreKept history disk (rest ∷ rests) = IsKept history disk rest × AreKept history disk rests

-- A journal was opened at the history of the first mark, and turns took its store to that of the last one, with what is
-- pending. The disk was only read before the first turn. The history at the beginning of each turn is held by each
-- image of each moment since.
pub record WentByTurns (first last : Mark) (pending : List Entry) (old new : DiskState) : Type 0 where
  pub opened : Rest
  pub turns : List Rest
  pub history : opened.history ≡ first.seen
  pub decided : opened.pending ≡ []
  pub faults : first.faults ≤ opened.faults
  pub only : ReadsOnly old opened.told
  pub turned : AreTurns opened turns
      (record { history = last.seen; pending = pending; told = new; faults = last.faults })
  pub kept : AreKept last.seen new turns
