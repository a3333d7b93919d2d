-- The first index of a list at which a test passes.
use Rattle.std.proofs.Common.{◌≡◌, ℕ, ◌<◌, Bool, true, false, List, length, get_or, Some, None, position, inl, inr, arith}
use Rattle.std.proofs.lemmas.Bool.{cases_lt}
use Rattle.std.proofs.lemmas.Bool.Decides.{nat_tests}
use Rattle.std.proofs.lemmas.List.Sums.{fails_before_first, position_or_len_is}
use Rattle.std.specs.List.{position_or_len}

module _ {X : Type 0} (p : X → Bool) (xs : List X) (d : X) where
  -- each index before i fails, and i passes
  pub position-first : (i : ℕ) → i < length xs → ((k : ℕ) → k < i → p (get_or xs k d) ≡ false) → p (get_or xs i d) ≡ true
      → position p xs ≡ Some i
  position-first i within before here =
      let at : position_or_len p xs ≡ i = position_or_len_is p xs i d (omega arith) before (λ _. here) in
      grind (arith, nat_tests)

  -- each index fails
  pub position-none : ((k : ℕ) → k < length xs → p (get_or xs k d) ≡ false) → position p xs ≡ None
  position-none fails =
      let at : position_or_len p xs ≡ length xs = position_or_len_is p xs (length xs) d (omega arith) fails (λ l. absurd (omega arith)) in
      grind (arith, nat_tests)

  -- no index passes
  pub fails-from_none : position p xs ≡ None → (k : ℕ) → k < length xs → p (get_or xs k d) ≡ false
  fails-from_none none k within =
      elim (cases_lt k (position_or_len p xs)) [
        | inl before ↦ fails_before_first p xs k d before
        | inr past ↦
            let inside : position_or_len p xs < length xs = omega arith in
            absurd (grind (arith, nat_tests))
      ]
