-- What a repair names.
use Rattle.std.specs.Prelude.{ℕ, ◌≡◌, ◌≢◌, ◌+◌, List, [], ◌∷◌, ◌++◌, length, slice_index}
use Rattle.farm_disk.specs.Images.{DiskState}
use Rattle.farm_journal.specs.Gates.{Rests}
use Rattle.farm_journal.specs.declared.mending.Repaired.{Repaired}
use Rattle.farm_journal.specs.declared.mending.Repaired.TheVariants.{Kept, Dropped}

-- the byte of the gate, by what a repair named
abbrev pub Reads : Repaired → ℕ → Type 0
Reads Kept gate = gate ≢ 0
Reads Dropped gate = gate ≡ 0

-- the payloads after a repair
abbrev pub payloads_after : Repaired → List (List ℕ) → List ℕ → List (List ℕ)
payloads_after Kept ps p = ps ++ p ∷ []
payloads_after Dropped ps p = ps

-- the version after a repair: a payload is only kept in a file of version 2
abbrev pub version_after : Repaired → ℕ → ℕ
version_after Kept version = 2
version_after Dropped version = version

-- what a repair named is what a read gives, and each crash leaves it; the gate reads so
abbrev pub Mends : ℕ → List (List ℕ) → ℕ → List ℕ → Repaired → DiskState → Type 0
Mends known ps gate p Kept disk = Rests 2 (ps ++ p ∷ []) (gate + 5 + length p) disk × (slice_index disk.bytes gate ≢ 0)
Mends known ps gate p Dropped disk = Rests known ps gate disk × (slice_index disk.bytes gate ≡ 0)
