-- Notes that a link takes before answers are put.
use Rattle.std.specs.Prelude.{ℕ, ◌≡◌, ◌≤◌, ◌⊎◌, Bool, List, [], ◌∷◌, length, Option, None, ⊤}
use Rattle.connection_laws.specs.Answers.{interim_of}
use Rattle.connection_laws.specs.Outcomes.{Step}
use Rattle.connection_laws.specs.Told.{told_history}
use Rattle.http_requests.specs.Items.{Item}
use Rattle.link_io.specs.Intake.{Intake}
use Rattle.link_io.specs.Notes.{note_at, with_note}
use Rattle.shared_farm.specs.Logs.{IsOver}
use Rattle.turn_lock.specs.Known.{Known}

-- The link took a note when these bytes were put, of a moment by which all that the pass has seen stood on the disk.
-- Nothing else was done to it but that bytes may have been put since.
pub record TookNote (old new : Intake) (put : Option (List ℕ)) (pass : Known) : Type 0 where
  pub moment : ℕ
  pub over : IsOver moment pass
  pub noted : new ≡ record old { notes = with_note (note_at put moment) old.notes }

-- it took one, or none
abbrev pub MayNote : (old new : Intake) → Option (List ℕ) → Known → Type 0
MayNote old new put pass = (new ≡ old) ⊎ TookNote old new put pass

-- no answer tells of a history
abbrev pub AreQuiet : List Step → Type 0
AreQuiet [] = ⊤
AreQuiet (step ∷ steps) = (told_history step.outcome ≡ None) × AreQuiet steps

-- the interim answer of the first item, where there is one, is out where it has one
abbrev pub IsOutFor : Bool → List Item → Type 0
IsOutFor out [] = ⊤
IsOutFor out (item ∷ items) = out ≡ item.interim

-- and where an answer tells of a history, the link took a note first
abbrev pub ArePreceded : (out : Bool) → List Item → List Step → (old new : Intake) → Option (List ℕ) → Known → Type 0
ArePreceded out items steps old new put pass = IsOutFor out items × (AreQuiet steps ⊎ TookNote old new put pass)

-- no more was put than the interim answer of the first item
abbrev pub IsUnbegun : List ℕ → List Item → Type 0
IsUnbegun put [] = ⊤
IsUnbegun put (item ∷ items) = length put ≤ length (interim_of item.interim)
