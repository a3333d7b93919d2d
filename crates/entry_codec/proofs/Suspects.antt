-- Reading suspects one after the other, as a loop does.
use Rattle.std.proofs.Common.{◌≡◌, ℕ, suc, ◌-◌, ◌+◌, ◌≤◌, ◌<◌, List, [], ◌∷◌, ◌++◌, Option, Some, None, refl, sym, ap, ◌∙◌, append_assoc, arith}
use Rattle.std.proofs.lemmas.List.{append-nil}
use Rattle.suspect_range.specs.declared.suspect.Suspect.{Suspect}
use Rattle.entry_codec.specs.Gives.{Fails}
use Rattle.entry_codec.specs.Reading.{◌>>=◌, suspect_at, suspects_at}
use Rattle.entry_codec.specs.declared.fault.Unread.{Unread}
use Rattle.entry_codec.specs.declared.fault.Unread.TheVariants.{Malformed, OutOfMemory}

-- what was read before, and what is still read
abbrev pub with_front : List Suspect → Option (List Suspect × List ℕ) → Option (List Suspect × List ℕ)
with_front front read = read >>= λ x. Some (front ++ x.0, x.1)

regroup : (front : List Suspect) (s : Suspect) (read : Option (List Suspect × List ℕ)) →
    with_front front (read >>= λ x. Some (s ∷ x.0, x.1)) ≡ with_front (front ++ s ∷ []) read
regroup front s None = refl
regroup front s (Some x) = ap (λ (xs : List Suspect). Some (xs, x.1)) (simp append_assoc)

pub goes_on : (front : List Suspect) (count i : ℕ) (bytes : List ℕ) (s : Suspect) (after : List ℕ)
    (total : Option (List Suspect × List ℕ)) →
    i < count → suspect_at bytes ≡ Some (s, after) → with_front front (suspects_at (count - i) bytes) ≡ total →
    with_front (front ++ s ∷ []) (suspects_at (count - (i + 1)) after) ≡ total
unfolding suspects_at
goes_on front count i bytes s after total lt h so_far =
    let k : count - i ≡ suc (count - (i + 1)) = omega arith in
    let one : with_front front (suspects_at (count - i) bytes)
    ≡ with_front (front ++ s ∷ []) (suspects_at (count - (i + 1)) after) =
    rw (k, h) (regroup front s (suspects_at (count - (i + 1)) after)) in
    sym one ∙ so_far

pub ends : (unread : Unread) (front : List Suspect) (count i : ℕ) (bytes : List ℕ)
    (total : Option (List Suspect × List ℕ)) →
    i < count → Fails unread (suspect_at bytes) → with_front front (suspects_at (count - i) bytes) ≡ total →
    Fails unread total
unfolding suspects_at
ends OutOfMemory front count i bytes total lt h so_far = tt
ends Malformed front count i bytes total lt h so_far =
    let k : count - i ≡ suc (count - (i + 1)) = omega arith in
    let one : with_front front (suspects_at (count - i) bytes) ≡ None = rw (k, h) refl in
    sym so_far ∙ one

pub is_done : (front : List Suspect) (count i : ℕ) (bytes : List ℕ) (total : Option (List Suspect × List ℕ)) →
    count ≤ i → with_front front (suspects_at (count - i) bytes) ≡ total → total ≡ Some (front, bytes)
unfolding suspects_at
is_done front count i bytes total le so_far =
    let k : count - i ≡ 0 = omega arith in
    let one : with_front front (suspects_at (count - i) bytes) ≡ Some (front, bytes) =
    rw k (ap (λ (xs : List Suspect). Some (xs, bytes)) (append-nil front)) in
    sym so_far ∙ one
