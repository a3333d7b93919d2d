-- What contracts see of a book of leases.
use Rattle.std.specs.Prelude.{ℕ, zero, suc, ◌-◌, ◌==◌, Bool, List, [], ◌∷◌, Option, None, slice_get, if◌then◌else◌}
use Rattle.std.specs.Option.{option_map}
use Rattle.search_books.specs.declared.lease.Lease.{Lease}

-- a lease, and whether it was answered
pub record Held : Type 0 where
  pub lease : Lease
  pub is_answered : Bool

-- the leases by the numbers of their runs, how many more can be added without memory, and the number below which a
-- search can have leases without memory
pub record BookView : Type 0 where
  pub leases : List Held
  pub room : ℕ
  pub search_bound : ℕ

-- the leases where the one at an index is marked as answered, or as not answered
abbrev pub marked : (is_answered : Bool) → (index : ℕ) → List Held → List Held
marked told index [] = []
marked told zero (held ∷ leases) = record { lease = held.lease; is_answered = told } ∷ leases
marked told (suc index) (held ∷ leases) = held ∷ marked told index leases

-- the lease of a run, and its mark; runs are numbered from 1
abbrev pub held_numbered : (run : ℕ) → List Held → Option Held
held_numbered run leases = if run == 0 then None else slice_get leases (run - 1)

-- the lease of a run
abbrev pub lease_numbered : (run : ℕ) → List Held → Option Lease
lease_numbered run leases = option_map (λ held. held.lease) (held_numbered run leases)
