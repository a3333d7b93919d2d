-- The parts of a list that is cut at its first element which passes a test.
use Rattle.std.proofs.Common.{ℕ, ◌≡◌, ◌+◌, Bool, true, false, not, cond, List, [], ◌∷◌, length, take, drop, Option, Some, None, MatchOption, refl, sym, subst, arith, nat_lt}
use Rattle.std.specs.Borrow.{Bor}
use Rattle.std.specs.List.{position, position_or_len, slice_split}
use Rattle.std.proofs.lemmas.Bool.{ltb-true, ltb-false, not-true, false≢true}
use Rattle.std.proofs.lemmas.List.Splits.{slice_split_first, slice_split_none}
use Rattle.std.proofs.lemmas.List.Sums.{prefix_len_passes}
use Rattle.std.proofs.lemmas.Option.{none-some, same_Some}

chosen_some : (b : Bool) (n i : ℕ) → cond b (Some n) None ≡ Some i → (b ≡ true) × (n ≡ i)
chosen_some true n i e = (refl, same_Some n i e)
chosen_some false n i e = absurd (none-some i e)

chosen_none : (b : Bool) (n : ℕ) → cond b (Some n) None ≡ None → b ≡ false
chosen_none true n e = absurd (none-some n (sym e))
chosen_none false n e = refl

-- where an element passes, the first part ends before it, and the rest is cut behind it
pub slice_split-found : {X : Type 0} (p : X → Bool) (xs : List X) (d : X) (i : ℕ) → position p xs ≡ Some i
    → slice_split p xs ≡ take i xs ∷ slice_split p (drop (i + 1) xs)
slice_split-found p xs d i found =
    let at = chosen_some (nat_lt (position_or_len p xs) (length xs)) (position_or_len p xs) i found in
    let first = slice_split_first p xs d (ltb-true _ _ at.0) in
    subst (λ (n : ℕ). slice_split p xs ≡ take n xs ∷ slice_split p (drop (n + 1) xs)) at.1 first

-- where none does, the whole is the only part
pub slice_split-whole : {X : Type 0} (p : X → Bool) (xs : List X) → position p xs ≡ None → slice_split p xs ≡ xs ∷ []
slice_split-whole p xs none =
    let far = ltb-false _ _ (chosen_none (nat_lt (position_or_len p xs) (length xs)) (position_or_len p xs) none) in
    slice_split_none p xs (λ k d inside. not-true _ (prefix_len_passes (λ x. not (p x)) xs k d (omega (arith, far, inside))))

-- ---- what a cut gives: the first part, and the rest where there is one

abbrev pub CutTo : (ℕ → Bool) → Option (Bor (List ℕ)) → List (List ℕ) → List ℕ → Type 0
CutTo ends r parts part = MatchOption r (parts ≡ part ∷ []) (λ rest. parts ≡ part ∷ slice_split ends rest.now)
