-- Which byte of an image is certain.
use Rattle.std.specs.Prelude.{ℕ, ◌≡◌, ◌+◌, ◌<◌, ◌&&◌, nat_le, nat_lt, List, [], ◌∷◌, length, Option, Some, None, if◌then◌else◌, slice_get, slice_index, unwrap_or}
use Rattle.farm_disk.specs.Images.{Step, still, write, cut, sync}
use Rattle.farm_disk.specs.Model.{synced, IsTouched}

-- the byte that stands at an index in each image that reaches so far, where only one may stand there
abbrev pub certain : List Step → ℕ → Option ℕ
certain [] i = None
certain (still ∷ older) i = certain older i
certain (write at n ∷ older) i = if nat_le at i && nat_lt i (at + n) then None else certain older i
certain (cut n ∷ older) i = if nat_le n i then None else certain older i
certain (sync bytes ∷ older) i = slice_get bytes i

-- the mark at an index, where there is one
abbrev pub mark_at : List (Option ℕ) → ℕ → Option ℕ
mark_at marks i = unwrap_or (slice_get marks i) None

-- the marks are the certain bytes
abbrev pub AreCertain : List Step → List (Option ℕ) → Type 0
AreCertain steps marks = (i : ℕ) → mark_at marks i ≡ certain steps i

-- a certain byte is that of the last sync, at an index that wasn't touched since
abbrev pub CertainIsAllowed : Type 0
CertainIsAllowed = (steps : List Step) (i b : ℕ) → certain steps i ≡ Some b
    → (i < length (synced steps)) × (IsTouched steps i → ⊥) × (slice_index (synced steps) i ≡ b)

-- and each such byte is certain
abbrev pub AllowedIsCertain : Type 0
AllowedIsCertain = (steps : List Step) (i : ℕ) → i < length (synced steps) → (IsTouched steps i → ⊥)
    → certain steps i ≡ Some (slice_index (synced steps) i)
