-- Counts that rose.
use Rattle.std.proofs.Common.{◌≡◌, ◌≤◌, inl, inr, ⊎_elim, ℕ, arith}
use Rattle.std.proofs.Math.Nat.{eq-or-lt_of_le}
use Rattle.common_types.specs.Counts.{Rose, last_count}

-- a count that rose later rose
pub rose-later : (first before now : ℕ) → first ≤ before → Rose before now → Rose first now
rose-later first before now low (inl rose) = inl (omega arith)
rose-later first before now low (inr stands) = ⊎_elim
    (λ same. inr (omega arith, stands.1))
    (λ below. inl (omega arith))
    (eq-or-lt_of_le low)

-- a count that rose earlier rose, as none is greater than the last one
pub rose-on : (first mid now : ℕ) → mid ≤ now → now ≤ last_count → Rose first mid → Rose first now
rose-on first mid now more most (inl rose) = inl (omega arith)
rose-on first mid now more most (inr stands) = let both : now ≡ last_count = omega arith in inr (stands.0, both)
