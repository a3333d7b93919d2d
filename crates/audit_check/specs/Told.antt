-- What a journal's bytes tell, as a function of them: nothing, since it was never founded; the offset at which they
-- break; or the entries of its records, one after the other. The layout of the file and the spelling of entries are
-- those of the journal and of the codec, cited; neither their calls nor their proofs are.
use Rattle.std.specs.Prelude.{ℕ, zero, suc, ◌+◌, List, [], ◌∷◌, ◌++◌, length, Option, Some, None}
use Rattle.farm_entry.specs.declared.entry.Entry.{Entry}
use Rattle.farm_journal.specs.Layout.{Opening, unborn as no_journal, damaged, holds, opens}
use Rattle.farm_journal.specs.declared.layout.TheConstants.{FIRST_GATE}
use Rattle.entry_codec.specs.Reading.{◌>>=◌, entry_at}

pub data Told : Type 0 where
  unborn : Told
  broken : ℕ → Told
  entries : List Entry → Told

-- the entries that bytes are, one after the other and at most so many
abbrev pub entries_in : ℕ → List ℕ → Option (List Entry)
entries_in n [] = Some []
entries_in zero (byte ∷ bytes) = None
entries_in (suc n) (byte ∷ bytes) = do
  first ← entry_at (byte ∷ bytes)
  others ← entries_in n first.1
  Some (first.0 ∷ others)

-- the entries of a payload: it has at least a byte for each
abbrev pub entries_of : List ℕ → Option (List Entry)
entries_of payload = entries_in (length payload) payload

-- entries before those that are told
abbrev pub with_entries : List Entry → Told → Told
with_entries part unborn = unborn
with_entries part (broken o) = broken o
with_entries part (entries H) = entries (part ++ H)

-- what a record tells whose gate stands at an offset, before what the records behind it tell
abbrev pub with_record : (gate : ℕ) → Option (List Entry) → Told → Told
with_record gate None later = broken gate
with_record gate (Some part) later = with_entries part later

-- what payloads tell, where the gate of the first stands at an offset: a gate and a length take 5 bytes
abbrev pub payloads_tell : (gate : ℕ) → List (List ℕ) → Told
payloads_tell gate [] = entries []
payloads_tell gate (payload ∷ payloads) =
    with_record gate (entries_of payload) (payloads_tell (gate + 5 + length payload) payloads)

-- a journal has a record
abbrev pub records_tell : List (List ℕ) → Told
records_tell [] = broken FIRST_GATE
records_tell (payload ∷ payloads) = payloads_tell FIRST_GATE (payload ∷ payloads)

abbrev pub opening_tells : Opening → Told
opening_tells no_journal = unborn
opening_tells (damaged o) = broken o
opening_tells (holds payloads) = records_tell payloads

abbrev pub told : List ℕ → Told
told bytes = opening_tells (opens bytes)
