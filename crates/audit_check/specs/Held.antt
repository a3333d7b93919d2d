-- What was read of a journal, as what its bytes tell.
use Rattle.std.specs.Prelude.{◌≡◌, ℕ, ◌==◌, true, List, ◌++◌, length, take, drop, Option, Some, None, if◌then◌else◌}
use Rattle.farm_entry.specs.declared.entry.Entry.{Entry}
use Rattle.farm_journal.specs.Layout.{is_whole, told_length}
use Rattle.farm_journal.specs.declared.layout.TheConstants.{FIRST_GATE}
use Rattle.audit_check.specs.Told.{Told, broken, entries, entries_of, unborn}
use Rattle.audit_check.specs.declared.gates.Told.{Told as Found}
use Rattle.audit_check.specs.declared.gates.Told.TheVariants.{Broken, Entries, Unborn}

abbrev pub told_in : Found → Told
told_in Unborn = unborn
told_in (Broken offset) = broken offset
told_in (Entries list) = entries list.items

-- bytes begin with a whole record of a payload
pub record IsPayloadOf (bytes payload : List ℕ) : Type 0 where
  pub whole : is_whole bytes ≡ true
  pub long : length payload ≡ told_length bytes
  pub is : payload ≡ take (told_length bytes) (drop 4 bytes)

-- what records tell by the entries that were read, and by the first gate whose record could not be read
abbrev pub told_by : Option ℕ → List Entry → Told
told_by None H = entries H
told_by (Some gate) H = broken gate

-- the same where the records end at a closed gate: there is one at least
abbrev pub told_before : (gate : ℕ) → Option ℕ → List Entry → Told
told_before gate unread H = if gate == FIRST_GATE then broken gate else told_by unread H

-- one record more was read, or couldn't be
abbrev pub IsReadOn : List ℕ → (gate : ℕ) → (old new : List Entry) → Option ℕ → Option ℕ → Type 0
IsReadOn payload gate old new (Some first) now = now ≡ Some first
IsReadOn payload gate old new None None = (part : List Entry) × (entries_of payload ≡ Some part) × (new ≡ old ++ part)
IsReadOn payload gate old new None (Some now) = (now ≡ gate) × (entries_of payload ≡ None)
