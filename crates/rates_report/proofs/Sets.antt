-- Lists of which one item is set.
use Rattle.std.proofs.Common.{◌≡◌, ℕ, zero, suc, ◌+◌, ◌<◌, Bool, true, false, ◌&&◌, ◌||◌, List, [], ◌∷◌, ◌++◌, length, set, get_or, refl, sym, ap, ◌∙◌, true≢false, arith}
use Rattle.std.specs.List.{list_any}

-- Or.

or-swap : (a b c : Bool) → (a || (b || c)) ≡ (b || (a || c))
or-swap true true c = refl
or-swap true false c = refl
or-swap false b c = refl

-- a test that is passed only where another one is adds nothing to it
or-absorb : (a b c : Bool) → (b ≡ true → a ≡ true) → (a || c) ≡ (a || (b || c))
or-absorb true b c grows = refl
or-absorb false true c grows = absurd (true≢false (sym (grows refl)))
or-absorb false false c grows = refl

-- Whether one item passes, where one is set and passes at least where it did.
pub any-set : {X : Type 0} (p : X → Bool) (xs : List X) (k : ℕ) (x y : X) → k < length xs → get_or xs k x ≡ x →
    (p x ≡ true → p y ≡ true) → list_any p (set xs k y) ≡ (p y || list_any p xs)
any-set p [] k x y below is grows = absurd (omega (arith, below))
any-set p (z ∷ xs) zero x y below is grows =
    or-absorb (p y) (p z) (list_any p xs) (λ passes. grows (sym (ap p is) ∙ passes))
any-set p (z ∷ xs) (suc k) x y below is grows =
    ap (λ (b : Bool). p z || b) (any-set p xs k x y (omega (arith, below)) is grows)
    ∙ or-swap (p z) (p y) (list_any p xs)

-- and where one is added at the end
pub any-push : {X : Type 0} (p : X → Bool) (xs : List X) (y : X) → list_any p (xs ++ y ∷ []) ≡ (p y || list_any p xs)
any-push p [] y = refl
any-push p (z ∷ xs) y = ap (λ (b : Bool). p z || b) (any-push p xs y) ∙ or-swap (p z) (p y) (list_any p xs)

-- a test beside another one goes with it
pub and-grows : (a b c : Bool) → (a ≡ true → b ≡ true) → (a && c) ≡ true → (b && c) ≡ true
and-grows true b c grows h = ap (λ (x : Bool). x && c) (grows refl) ∙ h
and-grows false b c grows h = absurd (true≢false (sym h))

-- What stands at a place that is set.
pub at-set : {X : Type 0} (xs : List X) (k : ℕ) (y d : X) → k < length xs → get_or (set xs k y) k d ≡ y
at-set [] k y d below = absurd (omega (arith, below))
at-set (x ∷ xs) zero y d below = refl
at-set (x ∷ xs) (suc k) y d below = at-set xs k y d (omega (arith, below))

-- of two writes at one place the last one counts
pub set-again : {X : Type 0} (xs : List X) (k : ℕ) (y z : X) → set (set xs k y) k z ≡ set xs k z
set-again [] k y z = refl
set-again (x ∷ xs) zero y z = refl
set-again (x ∷ xs) (suc k) y z = ap (λ l. x ∷ l) (set-again xs k y z)

-- and one that writes what stood there before leaves the list as it was
pub set-back : {X : Type 0} (xs : List X) (k : ℕ) (x y : X) → k < length xs → x ≡ get_or xs k x → set (set xs k y) k x ≡ xs
set-back [] k x y below is = absurd (omega (arith, below))
set-back (z ∷ zs) zero x y below is = ap (λ w. w ∷ zs) is
set-back (z ∷ zs) (suc k) x y below is = ap (λ l. z ∷ l) (set-back zs k x y (omega (arith, below)) is)

-- whatever stands for what is missing, an index below the length has the same item
pub get_or-any : {X : Type 0} (xs : List X) (k : ℕ) (c d : X) → k < length xs → get_or xs k c ≡ get_or xs k d
get_or-any [] k c d below = absurd (omega (arith, below))
get_or-any (x ∷ xs) zero c d below = refl
get_or-any (x ∷ xs) (suc k) c d below = get_or-any xs k c d (omega (arith, below))
