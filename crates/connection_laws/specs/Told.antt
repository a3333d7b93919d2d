-- What answers tell of, and when it was known.
use Rattle.std.specs.Prelude.{ℕ, ◌≡◌, ◌+◌, ◌<◌, ◌≤◌, List, [], ◌∷◌, length, Option, Some, None, IfSome, ⊤}
use Rattle.farm_entry.specs.Playing.{after}
use Rattle.farm_entry.specs.declared.entry.Entry.{Entry}
use Rattle.http_requests.specs.Items.{Item}
use Rattle.link_io.specs.Links.{LinkState}
use Rattle.link_io.specs.Notes.{Note}
use Rattle.common_types.specs.Rows.{IsAmong}
use Rattle.common_types.specs.declared.row.Row.{Row}
use Rattle.connection_laws.specs.Answers.{interim_of, item_bytes}
use Rattle.connection_laws.specs.Outcomes.{ItemOutcome, faulted, misread, answered, counted, copied, failed, failed_too, unread, uncalled, Step}
use Rattle.connection_laws.specs.Progress.{decision_on}

-- the history that the answer to an outcome tells of: that of a command with the entry that it recorded, where it did,
-- and that of a log page. The others acknowledge nothing
abbrev pub told_history : ItemOutcome → Option (List Entry)
told_history (faulted f) = None
told_history (misread f) = None
told_history (answered H ask a) = Some (after H (decision_on H ask))
told_history (counted H) = None
told_history (copied H from) = Some H
told_history (failed H ask before count) = None
told_history (failed_too ask) = None
told_history unread = None
told_history (uncalled H ask) = None

-- what may be said of an answer, by the place of its first byte among the bytes put, and the history that it tells of
abbrev pub Saying : Type 1
Saying = ℕ → List Entry → Type 0

-- the place of an answer's first byte, where so many bytes were put before its item: behind the interim answer
abbrev pub first_byte : ℕ → Item → ℕ
first_byte from item = from + length (interim_of item.interim)

-- this is said of each answer that tells of a history
abbrev pub AreSaid : Saying → (from : ℕ) → List Item → List Step → Type 0
AreSaid said from [] steps = ⊤
AreSaid said from (item ∷ items) [] = ⊤
AreSaid said from (item ∷ items) (step ∷ steps) =
    IfSome (told_history step.outcome) (said (first_byte from item))
    × AreSaid said (from + length (item_bytes item step)) items steps

-- the same of those answers alone of which a byte was put, where so many bytes were
abbrev pub if_put : (count : ℕ) → Saying → Saying
if_put count said place H = place < count → said place H

-- The link took a note before this byte, of the moment of a row that has all of the history.
pub record IsNoted (rows : List Row) (notes : List Note) (place : ℕ) (H : List Entry) : Type 0 where
  pub note : Note
  pub noted : IsAmong notes note
  pub before : note.put ≤ place
  pub row : Row
  pub known : IsAmong rows row
  pub holds : length H ≤ row.entries
  pub same : note.moment ≡ row.moment

-- of the bytes that were put between two states of a link, where it tells
abbrev pub noted_in : List Row → (old new : LinkState) → Saying
noted_in rows old new place H =
    IfSome new.notes (λ notes. IfSome old.put (λ had. IsNoted rows notes (length had + place) H))
