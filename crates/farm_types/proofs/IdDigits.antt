-- The loops that read an id's digits all at once.
use Rattle.std.proofs.Common.{◌≡◌, ℕ, ◌+◌, ◌*◌, ◌<◌, List, length, slice_index, slice_set, Some, Ok, inl, inr, refl, sym, ap, ◌∙◌, arith}
use Rattle.std.proofs.lemmas.Bool.{cases_eq}
use Rattle.std.proofs.lemmas.List.{get_or-set_other, get_or-set_same}
use Rattle.hex.specs.Hex.{hex_digit_value, pair_value}
use Rattle.farm_types.specs.IdDigits.{AreValues}

-- one digit more
pub AreValues-more : (text values : List ℕ) (n v : ℕ) → n < length values
    → (v < 16 → hex_digit_value (slice_index text n) ≡ Some v) → v < 16 → AreValues text values n
    → AreValues text (slice_set values n v) (n + 1)
AreValues-more text values n v fits reads small before k within =
    elim (cases_eq k n) [
      | inl same ↦
          let there : slice_index (slice_set values n v) k ≡ v =
          ap (slice_index (slice_set values n v)) same ∙ get_or-set_same values n v 0 fits in
          (ap (λ (j : ℕ). hex_digit_value (slice_index text j)) same ∙ reads small ∙ ap Some (sym there), rw there small)
      | inr other ↦
          let there : slice_index (slice_set values n v) k ≡ slice_index values k = get_or-set_other values n k v 0 other in
          let was = before k (omega (arith, other)) in
          (was.0 ∙ ap Some (sym there), rw there was.1)
    ]

-- two digits that have values read as their byte
pub pair_of-values : (text values : List ℕ) (n i : ℕ) → AreValues text values n → 2 * i + 1 < n
    → pair_value (slice_index text (2 * i)) (slice_index text (2 * i + 1)) (2 * i)
    ≡ Ok (slice_index values (2 * i) * 16 + slice_index values (2 * i + 1))
pair_of-values text values n i are within =
    let high = (are (2 * i) (omega arith)).0 in
    let low = (are (2 * i + 1) within).0 in
    rw (high, low) refl
