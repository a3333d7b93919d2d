-- What a file opens to, by its parts.
use Rattle.std.specs.Prelude.{ℕ, ◌≡◌, List, slice_index}
use Rattle.farm_journal.specs.Layout.{holds, opens, gate_of}
use Rattle.farm_journal.specs.Gates.{Holds}

-- a file of these parts opens to its payloads
abbrev pub HoldsOpens : Type 0
HoldsOpens = (version : ℕ) (ps : List (List ℕ)) (gate : ℕ) (bytes : List ℕ) → Holds version ps gate bytes
    → (opens bytes ≡ holds ps) × (gate ≡ gate_of ps)

-- a file that opens to payloads has these parts
abbrev pub OpensHolds : Type 0
OpensHolds = (ps : List (List ℕ)) (bytes : List ℕ) → opens bytes ≡ holds ps
    → Holds (slice_index bytes 15) ps (gate_of ps) bytes
