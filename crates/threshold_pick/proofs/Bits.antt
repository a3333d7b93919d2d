-- Positions as bits of words.
use Rattle.std.proofs.Common.{◌≡◌, ℕ, ◌+◌, ◌*◌, ◌/◌, ◌%◌, ◌^◌, ◌<◌, ◌≤◌, Bool, true, false, ◌||◌, eqb, ◌==◌, List, [], ◌∷◌, ◌++◌, length, get_or, set, reverse, refl, sym, ap, ◌∙◌, arith, inl, inr, ⊎_elim, get_or-set_same, get_or-set_other, eq-eqb, ne_eqb, w64}
use Rattle.std.proofs.Math.Bool.{or-false, or-true}
use Rattle.std.proofs.lemmas.Bool.{cases_eq}
use Rattle.std.proofs.lemmas.Grind.{reverse_onto}
use Rattle.std.proofs.lemmas.List.Folds.{list_any-append}
use Rattle.std.proofs.lemmas.Nat.Bits.{bit_at_set_same, bit_at_set_other}
use Rattle.std.specs.Prelude.{bit_or}
use Rattle.std.specs.Int.{bit_at}
use Rattle.weight_exact.specs.declared.limits.TheConstants.{MAX_SUSPECTS}
use Rattle.threshold_pick.specs.Open.{is_skipped}
use Rattle.threshold_pick.specs.SkipsInside.{AreBitsOf, bit_of}

-- words in which the bit of a position was set
abbrev pub with_bit : List ℕ → (place bit : ℕ) → List ℕ
with_bit words place bit = set words place (bit_or (get_or words place 0) (1 * 2 ^ bit % 2 ^ 64))

-- it is set then
bit_of-with_same : (words : List ℕ) (p : ℕ) → p < 64 * length words →
    bit_of (with_bit words (p / 64) (p % 64)) p ≡ true
bit_of-with_same words p within =
    let word = get_or words (p / 64) 0 in
    ap (λ (w : ℕ). eqb (bit_at w (p % 64)) 1)
    (get_or-set_same words (p / 64) (bit_or word (1 * 2 ^ (p % 64) % 2 ^ 64)) 0 (omega arith))
    ∙ eq-eqb _ 1 (bit_at_set_same w64 word (p % 64) (omega arith))

-- and the others are as before
bit_of-with_other : (words : List ℕ) (p q : ℕ) → p < 64 * length words → (q ≡ p → ⊥) →
    bit_of (with_bit words (p / 64) (p % 64)) q ≡ bit_of words q
bit_of-with_other words p q within other =
    let word = get_or words (p / 64) 0 in
    let next : ℕ = bit_or word (1 * 2 ^ (p % 64) % 2 ^ 64) in
    elim (cases_eq (q / 64) (p / 64)) as (λ _. bit_of (with_bit words (p / 64) (p % 64)) q ≡ bit_of words q) [
      | inl same ↦
          ap (λ (place : ℕ). eqb (bit_at (get_or (set words (p / 64) next) place 0) (q % 64)) 1) same
          ∙ ap (λ (w : ℕ). eqb (bit_at w (q % 64)) 1) (get_or-set_same words (p / 64) next 0 (omega arith))
          ∙ ap (λ (bit : ℕ). eqb bit 1)
          (bit_at_set_other w64 word (p % 64) (omega arith) (q % 64) (λ e. other (omega (arith, e, same))))
          ∙ ap (λ (place : ℕ). eqb (bit_at (get_or words place 0) (q % 64)) 1) (sym same)
      | inr apart ↦
          ap (λ (w : ℕ). eqb (bit_at w (q % 64)) 1) (get_or-set_other words (p / 64) (q / 64) next 0 apart)
    ]

-- a position more that was skipped
skipped-same : (skipped : List ℕ) (p : ℕ) → is_skipped (skipped ++ p ∷ []) p ≡ true
skipped-same skipped p =
    list_any-append (λ (x : ℕ). x == p) skipped (p ∷ [])
    ∙ ap (λ (b : Bool). is_skipped skipped p || (b || false)) (eq-eqb p p refl) ∙ or-true (is_skipped skipped p)

-- leaves the others as they were
skipped-other : (skipped : List ℕ) (p q : ℕ) → (q ≡ p → ⊥) → is_skipped (skipped ++ p ∷ []) q ≡ is_skipped skipped q
skipped-other skipped p q other =
    list_any-append (λ (x : ℕ). x == q) skipped (p ∷ [])
    ∙ ap (λ (b : Bool). is_skipped skipped q || (b || false)) (ne_eqb p q (λ e. other (sym e)))
    ∙ or-false (is_skipped skipped q)

-- the bits stand for the positions with one more
pub AreBitsOf-more : (words told after : List ℕ) (p place bit : ℕ) → length words ≡ MAX_SUSPECTS / 64 + 1 →
    p ≤ MAX_SUSPECTS → place ≡ p / 64 → bit ≡ p % 64 → after ≡ p ∷ told → AreBitsOf words (reverse told) →
    AreBitsOf (with_bit words place bit) (reverse after)
AreBitsOf-more words told after p place bit whole within place_is bit_is more are q low =
    let skipped = reverse told in
    let here : p < 64 * length words = omega (arith, whole, within) in
    let list : reverse after ≡ skipped ++ p ∷ [] = ap reverse more ∙ reverse_onto told p [] in
    let bits : bit_of (with_bit words place bit) q ≡ bit_of (with_bit words (p / 64) (p % 64)) q =
    ap (λ (i : ℕ). bit_of (with_bit words i bit) q) place_is
    ∙ ap (λ (i : ℕ). bit_of (with_bit words (p / 64) i) q) bit_is in
    let each : bit_of (with_bit words (p / 64) (p % 64)) q ≡ is_skipped (skipped ++ p ∷ []) q =
    ⊎_elim
    (λ (same : q ≡ p).
    ap (bit_of (with_bit words (p / 64) (p % 64))) same ∙ bit_of-with_same words p here
    ∙ sym (skipped-same skipped p) ∙ ap (is_skipped (skipped ++ p ∷ [])) (sym same))
    (λ (other : q ≡ p → ⊥).
    bit_of-with_other words p q here other ∙ are q low ∙ sym (skipped-other skipped p q other))
    (cases_eq q p) in
    bits ∙ each ∙ ap (λ (xs : List ℕ). is_skipped xs q) (sym list)
