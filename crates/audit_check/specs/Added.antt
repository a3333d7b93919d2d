-- What adding the entries of a payload to a list leaves.
use Rattle.std.specs.Prelude.{◌≡◌, ℕ, Bool, true, false, List, ◌++◌, Some, None}
use Rattle.farm_entry.specs.declared.entry.Entry.{Entry}
use Rattle.audit_check.specs.Told.{entries_of}

-- a payload is made of entries, and they stand at the end of the list; or it isn't
abbrev pub IsAdded : List ℕ → (old new : List Entry) → Bool → Type 0
IsAdded payload old new true = (part : List Entry) × (entries_of payload ≡ Some part) × (new ≡ old ++ part)
IsAdded payload old new false = entries_of payload ≡ None
