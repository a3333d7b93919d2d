-- Marks as bits of words.
use Rattle.std.proofs.Common.{◌≡◌, ℕ, ◌*◌, ◌/◌, ◌%◌, ◌^◌, ◌<◌, Bool, true, eqb, List, length, get_or, set, sym, ap, ◌∙◌, arith, inl, inr, ⊎_elim, get_or-set_same, get_or-set_other, eq-eqb, w64}
use Rattle.std.proofs.lemmas.Bool.{cases_eq}
use Rattle.std.proofs.lemmas.Nat.Bits.{bit_at_set_same, bit_at_set_other}
use Rattle.std.specs.Prelude.{bit_or}
use Rattle.std.specs.Int.{bit_at}
use Rattle.suspect_range.specs.Marks.{is_put}

-- words in which a bit was set
abbrev pub with_bit : List ℕ → (place bit : ℕ) → List ℕ
with_bit words place bit = set words place (bit_or (get_or words place 0) (1 * 2 ^ bit % 2 ^ 64))

-- the mark is put then
is_put-same : (words : List ℕ) (m : ℕ) → m < 64 * length words → is_put (with_bit words (m / 64) (m % 64)) m ≡ true
is_put-same words m within =
    let word = get_or words (m / 64) 0 in
    ap (λ (w : ℕ). eqb (bit_at w (m % 64)) 1)
    (get_or-set_same words (m / 64) (bit_or word (1 * 2 ^ (m % 64) % 2 ^ 64)) 0 (omega arith))
    ∙ eq-eqb _ 1 (bit_at_set_same w64 word (m % 64) (omega arith))

-- and the others are as before
is_put-other : (words : List ℕ) (m q : ℕ) → m < 64 * length words → (q ≡ m → ⊥) →
    is_put (with_bit words (m / 64) (m % 64)) q ≡ is_put words q
is_put-other words m q within other =
    let word = get_or words (m / 64) 0 in
    let next : ℕ = bit_or word (1 * 2 ^ (m % 64) % 2 ^ 64) in
    elim (cases_eq (q / 64) (m / 64)) as (λ _. is_put (with_bit words (m / 64) (m % 64)) q ≡ is_put words q) [
      | inl same ↦
          ap (λ (place : ℕ). eqb (bit_at (get_or (set words (m / 64) next) place 0) (q % 64)) 1) same
          ∙ ap (λ (w : ℕ). eqb (bit_at w (q % 64)) 1) (get_or-set_same words (m / 64) next 0 (omega arith))
          ∙ ap (λ (bit : ℕ). eqb bit 1)
          (bit_at_set_other w64 word (m % 64) (omega arith) (q % 64) (λ e. other (omega (arith, e, same))))
          ∙ ap (λ (place : ℕ). eqb (bit_at (get_or words place 0) (q % 64)) 1) (sym same)
      | inr apart ↦
          ap (λ (w : ℕ). eqb (bit_at w (q % 64)) 1) (get_or-set_other words (m / 64) (q / 64) next 0 apart)
    ]

-- those that were put stay so
is_put-kept : (words : List ℕ) (m q : ℕ) → m < 64 * length words → is_put words q ≡ true →
    is_put (with_bit words (m / 64) (m % 64)) q ≡ true
is_put-kept words m q within put =
    ⊎_elim
    (λ (same : q ≡ m). ap (is_put (with_bit words (m / 64) (m % 64))) same ∙ is_put-same words m within)
    (λ (other : q ≡ m → ⊥). is_put-other words m q within other ∙ put)
    (cases_eq q m)

-- the same where the word and the bit are told by their numbers
module _ (words : List ℕ) (m place bit : ℕ) (place_is : place ≡ m / 64) (bit_is : bit ≡ m % 64) (within : m < 64 * length words) where
  same_words : (q : ℕ) → is_put (with_bit words place bit) q ≡ is_put (with_bit words (m / 64) (m % 64)) q
  same_words q =
      ap (λ (i : ℕ). is_put (with_bit words i bit) q) place_is
      ∙ ap (λ (i : ℕ). is_put (with_bit words (m / 64) i) q) bit_is

  pub is_put-here : (q : ℕ) → q ≡ m → is_put (with_bit words place bit) q ≡ true
  is_put-here q same = same_words q ∙ (ap (is_put (with_bit words (m / 64) (m % 64))) same ∙ is_put-same words m within)

  pub is_put-still : (q : ℕ) → is_put words q ≡ true → is_put (with_bit words place bit) q ≡ true
  is_put-still q put = same_words q ∙ is_put-kept words m q within put
