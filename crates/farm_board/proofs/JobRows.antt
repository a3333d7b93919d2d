-- Lists read at an index, and a choice by two numbers.
use Rattle.std.proofs.Common.{◌≡◌, ◌≢◌, ◌++◌, ◌∷◌, [], List, ℕ, zero, suc, length, map, replicate, cond, eqb, get_or, ◌<◌, arith, sym, refl, ap, eq-eqb, ne_eqb}
use mathlib.Core.Option.{some, some-injective, some-ne-none}
use lib.ListN.{get_elem?}

-- a choice by two equal numbers, and by two others
pub cond-same : {A : Type 0} (a b : ℕ) (x y : A) → a ≡ b → cond (eqb a b) x y ≡ x
cond-same a b x y e = ap (λ t. cond t x y) (eq-eqb a b e)

pub cond-other : {A : Type 0} (a b : ℕ) (x y : A) → a ≢ b → cond (eqb a b) x y ≡ y
cond-other a b x y ne = ap (λ t. cond t x y) (ne_eqb a b ne)

module _ {A : Type 0} where
  pub at-lt-length : (l : List A) (i : ℕ) (a : A) → get_elem? l i ≡ some a → i < length l
  at-lt-length [] i a e = absurd (some-ne-none a (sym e))
  at-lt-length (x ∷ xs) zero a e = omega arith
  at-lt-length (x ∷ xs) (suc i) a e = let h = at-lt-length xs i a e in omega arith

  pub at-get_or : (l : List A) (i : ℕ) (a d : A) → get_elem? l i ≡ some a → get_or l i d ≡ a
  at-get_or [] i a d e = absurd (some-ne-none a (sym e))
  at-get_or (x ∷ xs) zero a d e = some-injective x a e
  at-get_or (x ∷ xs) (suc i) a d e = at-get_or xs i a d e

  -- one more of what is read where there is nothing changes no reading
  pub get_or-push : (l : List A) (i : ℕ) (d : A) → get_or (l ++ d ∷ []) i d ≡ get_or l i d
  get_or-push [] zero d = refl
  get_or-push [] (suc i) d = refl
  get_or-push (x ∷ xs) zero d = refl
  get_or-push (x ∷ xs) (suc i) d = get_or-push xs i d

  pub get_or-replicate : (n i : ℕ) (d : A) → get_or (replicate n d) i d ≡ d
  get_or-replicate zero i d = refl
  get_or-replicate (suc n) zero d = refl
  get_or-replicate (suc n) (suc i) d = get_or-replicate n i d

  -- a row of equal ones has one at each index
  pub at-replicate : (n i : ℕ) (a : A) → i < n → get_elem? (map some (replicate n a)) i ≡ some (some a)
  at-replicate zero i a h = absurd (omega arith)
  at-replicate (suc n) zero a h = refl
  at-replicate (suc n) (suc i) a h = at-replicate n i a (omega arith)
