-- Lemmas on a list that another one begins with.
use Rattle.std.proofs.Common.{◌≡◌, ◌++◌, ◌∷◌, [], List, Bool, true, false, length, ◌≤◌, ◌+◌, arith, sym, refl, ap, ◌∙◌, subst, append-nil, append_assoc, length-append, le_refl}
use Rattle.std.specs.Prelude.{if◌then◌else◌, nat_le}
use Rattle.std.proofs.lemmas.Bool.Decides.{nat_tests}
use Rattle.common_types.specs.Prefix.{IsPrefix, longer}

module _ {A : Type 0} where
  -- each list begins with itself
  pub IsPrefix-refl : (xs : List A) → IsPrefix xs xs
  IsPrefix-refl xs = ([], sym (append-nil xs))

  -- equal lists begin with one another
  pub IsPrefix-equal : (xs ys : List A) → xs ≡ ys → IsPrefix xs ys
  IsPrefix-equal xs ys same = subst (λ (l : List A). IsPrefix xs l) same (IsPrefix-refl xs)

  -- each list begins with the empty one
  pub IsPrefix-nil : (xs : List A) → IsPrefix [] xs
  IsPrefix-nil xs = (xs, refl)

  -- a list with more at its end begins with the list
  pub IsPrefix-append : (xs ys : List A) → IsPrefix xs (xs ++ ys)
  IsPrefix-append xs ys = (ys, refl)

  -- what begins a beginning of a list begins the list
  pub IsPrefix-trans : (xs ys zs : List A) → IsPrefix xs ys → IsPrefix ys zs → IsPrefix xs zs
  IsPrefix-trans xs ys zs a b =
      (a.0 ++ b.0, b.1 ∙ ap (λ (l : List A). l ++ b.0) a.1 ∙ append_assoc xs a.0 b.0)

  -- what a list begins with isn't longer than it
  pub IsPrefix-length : (xs ys : List A) → IsPrefix xs ys → length xs ≤ length ys
  IsPrefix-length xs ys p =
      let n : length ys ≡ length xs + length p.0 =
      ap (λ (l : List A). length l) p.1 ∙ length-append xs p.0 in omega arith

  cons_ends : (x y : A) (xs ys : List A) → x ∷ xs ≡ y ∷ ys → (x ≡ y) × (xs ≡ ys)
  cons_ends x y xs ys e = (cc, cc)

  begun : (xs ys more rest : List A) → xs ++ more ≡ ys ++ rest → length xs ≤ length ys → IsPrefix xs ys
  begun [] ys more rest e le = IsPrefix-nil ys
  begun (x ∷ xs) [] more rest e le = absurd (omega arith)
  begun (x ∷ xs) (y ∷ ys) more rest e le =
      let ends = cons_ends x y (xs ++ more) (ys ++ rest) e in
      let p = begun xs ys more rest ends.1 (omega arith) in
      (p.0, λ i. sym ends.0 i ∷ p.1 i)

  -- of two lists that one list begins with, the shorter begins the longer
  pub IsPrefix-shorter : (xs ys all : List A) → IsPrefix xs all → IsPrefix ys all → length xs ≤ length ys
      → IsPrefix xs ys
  IsPrefix-shorter xs ys all a b le = begun xs ys a.0 b.0 (sym a.1 ∙ b.1) le

  nil_of : (xs rest : List A) → length (xs ++ rest) ≤ length xs → rest ≡ []
  nil_of xs [] le = refl
  nil_of xs (r ∷ rest) le = let n = length-append xs (r ∷ rest) in absurd (omega arith)

  -- a list that isn't longer than a beginning of it is that beginning
  pub IsPrefix-same : (xs ys : List A) → IsPrefix xs ys → length ys ≤ length xs → ys ≡ xs
  IsPrefix-same xs ys p le =
      let none = nil_of xs p.0 (subst (λ (l : List A). length l ≤ length xs) p.1 le) in
      p.1 ∙ ap (λ (l : List A). xs ++ l) none ∙ append-nil xs

  longer_by : (xs ys : List A) (b : Bool) (P : List A → Type 0) → nat_le (length xs) (length ys) ≡ b
      → (length xs ≤ length ys → P ys) → (length ys ≤ length xs → P xs) → P (if b then ys else xs)
  longer_by xs ys true P is at_most more = at_most (grind (arith, nat_tests))
  longer_by xs ys false P is at_most more = more (grind (arith, nat_tests))

  -- what holds of each of two lists where it isn't shorter than the other, holds of the longer of them
  pub longer-elim : (xs ys : List A) (P : List A → Type 0) → (length xs ≤ length ys → P ys)
      → (length ys ≤ length xs → P xs) → P (longer xs ys)
  longer-elim xs ys P at_most more = longer_by xs ys (nat_le (length xs) (length ys)) P refl at_most more

  -- a list begins with the longer of two of its beginnings
  pub IsPrefix-longer : (xs ys all : List A) → IsPrefix xs all → IsPrefix ys all → IsPrefix (longer xs ys) all
  IsPrefix-longer xs ys all a b = longer-elim xs ys (λ (l : List A). IsPrefix l all) (λ _. b) (λ _. a)

  -- the longer of two beginnings of a list begins with the first of them
  pub longer-IsPrefix_first : (xs ys all : List A) → IsPrefix xs all → IsPrefix ys all → IsPrefix xs (longer xs ys)
  longer-IsPrefix_first xs ys all a b =
      longer-elim xs ys (λ (l : List A). IsPrefix xs l) (λ le. IsPrefix-shorter xs ys all a b le)
      (λ _. IsPrefix-refl xs)

  -- and with the second
  pub longer-IsPrefix_second : (xs ys all : List A) → IsPrefix xs all → IsPrefix ys all → IsPrefix ys (longer xs ys)
  longer-IsPrefix_second xs ys all a b =
      longer-elim xs ys (λ (l : List A). IsPrefix ys l) (λ _. IsPrefix-refl ys)
      (λ le. IsPrefix-shorter ys xs all b a le)

  -- the longer of two lists isn't shorter than the first
  pub length-longer_first : (xs ys : List A) → length xs ≤ length (longer xs ys)
  length-longer_first xs ys =
      longer-elim xs ys (λ (l : List A). length xs ≤ length l) (λ le. le) (λ _. le_refl (length xs))

  -- and not than the second
  pub length-longer_second : (xs ys : List A) → length ys ≤ length (longer xs ys)
  length-longer_second xs ys =
      longer-elim xs ys (λ (l : List A). length ys ≤ length l) (λ _. le_refl (length ys)) (λ le. le)
