-- What is found in the bytes of a file.
use Rattle.std.specs.Prelude.{ℕ, ◌≡◌, List, [], ◌∷◌, ◌++◌, length, drop, Result, Ok, Err, ⊤}
use Rattle.farm_journal.specs.Layout.{Opening, unborn, damaged, holds, opens, records, gate_of}
use Rattle.farm_journal.specs.declared.layout.TheConstants.{FIRST_GATE}
use Rattle.farm_journal.specs.declared.reading.Found.{Found}
use Rattle.farm_journal.specs.declared.reading.Missed.{Missed}
use Rattle.farm_journal.specs.declared.reading.Missed.TheVariants as missed

-- the oldest first, of a list that was told
abbrev pub in_order : List (List ℕ) → List (List ℕ)
in_order [] = []
in_order (newest ∷ older) = in_order older ++ newest ∷ []

-- these payloads were found, and told in their order, and their closed gate
pub record IsFound (ps : List (List ℕ)) (found : Found) : Type 0 where
  pub payloads : found.payloads ≡ ps
  pub told : in_order found.past ≡ ps
  pub gate : found.gate ≡ gate_of ps

-- what was found is what is there
abbrev pub Tells : Opening → Result Found Missed → Type 0
Tells opening (Ok found) = (ps : List (List ℕ)) × (opening ≡ holds ps) × IsFound ps found
Tells opening (Err missed.Unborn) = opening ≡ unborn
Tells opening (Err (missed.Damaged o)) = opening ≡ damaged o
Tells opening (Err missed.Memory) = ⊤

-- what the bytes open to
abbrev pub Finds : Result Found Missed → List ℕ → Type 0
Finds result bytes = Tells (opens bytes) result

-- the same from the first gate on
abbrev pub Scans : Result Found Missed → List ℕ → Type 0
Scans result bytes = Tells (records (length bytes) FIRST_GATE (drop FIRST_GATE bytes)) result
