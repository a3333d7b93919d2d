-- Notes that a link takes of moments that are over.
use Rattle.std.specs.Prelude.{ℕ, ◌≡◌, ◌++◌, List, length, Option, None, Some}
use Rattle.link_io.specs.Telling.{add_told}

-- when so many bytes were put, it was known that this moment was over
pub record Note : Type 0 where
  pub put : ℕ
  pub moment : ℕ

-- a note of a moment, behind these bytes, where the object tells them
abbrev pub note_at : Option (List ℕ) → (moment : ℕ) → Option Note
note_at None moment = None
note_at (Some put) moment = Some record { put = length put; moment = moment }

-- one note more, the newest first, where the object tells
abbrev pub with_note : Option Note → Option (List Note) → Option (List Note)
with_note None notes = notes
with_note (Some note) notes = add_told note notes

-- what was put to a link: the bytes that were written, and the notes that were taken, where it tells
pub record Output : Type 0 where
  pub written : Option (List ℕ)
  pub notes : Option (List Note)

-- of an object that nothing can be put to
abbrev pub no_output : Output
no_output = record { written = None; notes = None }

-- an object that tells its notes took some, and one that doesn't tells none
abbrev pub TakesNotes : (old new : Option (List Note)) → Type 0
TakesNotes None new = new ≡ None
TakesNotes (Some notes) new = (newer : List Note) × (new ≡ Some (newer ++ notes))
