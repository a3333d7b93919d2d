-- Reading a list of words number by number, against a form of whole lists of numbers.
use Rattle.std.proofs.Common.{◌≡◌, ℕ, ◌^◌, ◌≤◌, List, [], ◌∷◌, Option, Some, None, drop, refl, sym, ap, ◌∙◌}
use Rattle.std.specs.Prelude.{option_and_then}
use Rattle.common_types.specs.Decimals.{number}
use Rattle.judge.specs.Text.{numbers, with_first, first_number}
use Rattle.judge.specs.Words.{ReadsNumber, LacksNumber}

-- what a form makes of the numbers that the words write
abbrev pub formed : {X : Type 0} → (List ℕ → Option X) → List (List ℕ) → Option X
formed form words = option_and_then form (numbers words)

-- the form of what follows the number n
abbrev pub following : {X : Type 0} → (List ℕ → Option X) → ℕ → List ℕ → Option X
following form n ns = form (n ∷ ns)

-- a form that has a number below 2 ^ 32 next
pub record WantsNumber {X : Type 0} (form : List ℕ → Option X) : Type 0 where
  pub empty : form [] ≡ None
  pub large : (n : ℕ) (ns : List ℕ) → 2 ^ 32 ≤ n → form (n ∷ ns) ≡ None

numbers_next : (old new : List (List ℕ)) (n : ℕ) → first_number old ≡ Some n → new ≡ drop 1 old
    → numbers old ≡ with_first (Some n) (numbers new)
numbers_next [] new n value rest = cc
numbers_next (w ∷ ws) new n value rest =
    ap (λ o. with_first o (numbers ws)) value ∙ ap (λ l. with_first (Some n) (numbers l)) (sym rest)

and_then-with_first : {X : Type 0} (form : List ℕ → Option X) (n : ℕ) (others : Option (List ℕ))
    → option_and_then form (with_first (Some n) others) ≡ option_and_then (following form n) others
and_then-with_first form n None = refl
and_then-with_first form n (Some ns) = refl

-- the form goes on with what follows the first number
pub formed-reads : {X : Type 0} (form : List ℕ → Option X) {old new : List (List ℕ)} {n : ℕ} → ReadsNumber old n new
    → formed form old ≡ formed (following form n) new
formed-reads form {old} {new} {n} r =
    ap (option_and_then form) (numbers_next old new n r.value r.rest) ∙ and_then-with_first form n (numbers new)

at_first : {X : Type 0} (form : List ℕ → Option X) → WantsNumber form → (first : Option ℕ) (others : Option (List ℕ))
    → ((n : ℕ) → first ≡ Some n → 2 ^ 32 ≤ n) → option_and_then form (with_first first others) ≡ None
at_first form wants None others too_large = refl
at_first form wants (Some n) None too_large = refl
at_first form wants (Some n) (Some ns) too_large = wants.large n ns (too_large n refl)

lacks : {X : Type 0} (form : List ℕ → Option X) → WantsNumber form → (words : List (List ℕ))
    → ((n : ℕ) → first_number words ≡ Some n → 2 ^ 32 ≤ n) → formed form words ≡ None
lacks form wants [] too_large = wants.empty
lacks form wants (w ∷ ws) too_large = at_first form wants (number w) (numbers ws) too_large

-- the form fails where it has a number next and there is none below 2 ^ 32
pub formed-lacks : {X : Type 0} (form : List ℕ → Option X) {words : List (List ℕ)} → WantsNumber form
    → LacksNumber words → formed form words ≡ None
formed-lacks form {words} wants r = lacks form wants words r.too_large

-- two forms that agree
and_then_same : {X : Type 0} (form other : List ℕ → Option X) → ((ns : List ℕ) → form ns ≡ other ns)
    → (o : Option (List ℕ)) → option_and_then form o ≡ option_and_then other o
and_then_same form other same None = refl
and_then_same form other same (Some ns) = same ns

pub formed_same : {X : Type 0} (form other : List ℕ → Option X) (words : List (List ℕ))
    → ((ns : List ℕ) → form ns ≡ other ns) → formed form words ≡ formed other words
formed_same form other words same = and_then_same form other same (numbers words)

and_then_none : {X : Type 0} (form : List ℕ → Option X) → ((ns : List ℕ) → form ns ≡ None) → (o : Option (List ℕ))
    → option_and_then form o ≡ None
and_then_none form fails None = refl
and_then_none form fails (Some ns) = fails ns

-- a form that fails whatever the numbers are
pub formed_none : {X : Type 0} (form : List ℕ → Option X) (words : List (List ℕ)) → ((ns : List ℕ) → form ns ≡ None)
    → formed form words ≡ None
formed_none form words fails = and_then_none form fails (numbers words)
