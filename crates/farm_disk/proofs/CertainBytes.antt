-- The certain bytes are those of the last sync that weren't touched since.
use Rattle.std.proofs.Common.{◌≡◌, inl, inr, ⊎_elim, ℕ, ◌+◌, ◌≤◌, ◌<◌, nat_le, nat_lt, ◌&&◌, false, Option, Some, None, [], ◌∷◌, length, refl, sym, ◌∙◌, arith}
use Rattle.std.specs.List.{slice_get}
use Rattle.std.proofs.lemmas.Bool.{cases_lt, cases_Bool}
use Rattle.std.proofs.lemmas.Bool.Decides.{nat_tests}
use Rattle.std.proofs.lemmas.Option.{slice_get-get_or, get_or_from_slice_get, slice_get_past}
use Rattle.farm_disk.specs.Images.{still, write, cut, sync}
use Rattle.farm_disk.specs.Certain.{certain, CertainIsAllowed, AllowedIsCertain}

-- nothing is no byte
none-some : (o : Option ℕ) (b : ℕ) → o ≡ None → o ≡ Some b → ⊥
none-some o b nothing something = cc

pub allowed-is-certain : AllowedIsCertain
allowed-is-certain [] i held untouched = absurd (omega (arith, held))
allowed-is-certain (still ∷ older) i held untouched = allowed-is-certain older i held untouched
allowed-is-certain (write at n ∷ older) i held untouched =
    let before = allowed-is-certain older i held (λ t. untouched (inr t)) in
    let outside : (nat_le at i && nat_lt i (at + n)) ≡ false =
    ⊎_elim (λ (below : i < at). grind (arith, nat_tests, below)) (λ (above : at ≤ i).
    ⊎_elim (λ (inside : i < at + n). absurd (untouched (inl (above, inside))))
    (λ (behind : at + n ≤ i). grind (arith, nat_tests, above, behind)) (cases_lt i (at + n))) (cases_lt i at) in
    rw outside before
allowed-is-certain (cut n ∷ older) i held untouched =
    let before = allowed-is-certain older i held (λ t. untouched (inr t)) in
    let below : nat_le n i ≡ false =
    ⊎_elim (λ (b : i < n). grind (arith, nat_tests, b)) (λ (above : n ≤ i). absurd (untouched (inl above)))
    (cases_lt i n) in
    rw below before
allowed-is-certain (sync bytes ∷ older) i held untouched = slice_get-get_or bytes i 0 held

pub certain-is-allowed : CertainIsAllowed
certain-is-allowed [] i b is = absurd (none-some None b refl is)
certain-is-allowed (still ∷ older) i b is = certain-is-allowed older i b is
certain-is-allowed (write at n ∷ older) i b is =
    elim (cases_Bool (nat_le at i && nat_lt i (at + n))) [
      | inl inside ↦ absurd (none-some (certain (write at n ∷ older) i) b (rw inside refl) is)
      | inr outside ↦
          let before = certain-is-allowed older i b (sym (rw outside refl) ∙ is) in (
            before.0,
            λ t. ⊎_elim (λ (r : (at ≤ i) × (i < at + n)). absurd (grind (arith, nat_tests, outside, r.0, r.1)))
                before.1 t,
            before.2,
          )
    ]
certain-is-allowed (cut n ∷ older) i b is =
    elim (cases_Bool (nat_le n i)) [
      | inl above ↦ absurd (none-some (certain (cut n ∷ older) i) b (rw above refl) is)
      | inr below ↦
          let before = certain-is-allowed older i b (sym (rw below refl) ∙ is) in
          (before.0, λ t. ⊎_elim (λ (r : n ≤ i). absurd (grind (arith, nat_tests, below, r))) before.1 t, before.2)
    ]
certain-is-allowed (sync bytes ∷ older) i b is =
    let within : i < length bytes =
    ⊎_elim (λ (h : i < length bytes). h)
    (λ (past : length bytes ≤ i). absurd (none-some (slice_get bytes i) b (slice_get_past bytes i past) is))
    (cases_lt i (length bytes)) in
    (within, λ t. t, get_or_from_slice_get bytes i b 0 is)
