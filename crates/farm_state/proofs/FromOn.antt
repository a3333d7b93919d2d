-- A list from one of its numbers on.
use Rattle.std.proofs.Common.{◌≡◌, ◌≢◌, ℕ, ◌≤◌, true, false, List, [], ◌∷◌, None, refl, sym, ap, ◌∙◌, ⊎_elim, arith}
use Rattle.std.specs.Option.{option_or}
use Rattle.std.proofs.lemmas.Bool.{cases_Bool, cases_eq, true≢false}
use Rattle.search_books.specs.Order.{has, first_of, next_of, IsOnce}
use Rattle.search_books.proofs.Lists.{has-rest, none-first, none-rest, other, same}
use Rattle.farm_entry.specs.History.{openings}
use Rattle.farm_entry.specs.Legal.{IsLegal}
use Rattle.farm_entry.specs.declared.entry.Entry.{Entry}
use Rattle.farm_entry.specs.declared.opening.Opening.{Opening}
use Rattle.farm_laws.proofs.Numbered.{number-at-least, openings-numbered}
use Rattle.farm_state.specs.TurnOrder.{IsTurnOrder, due_in_search, first_due, first_due_from, from_on}

from-here : (s x : ℕ) (rest : List ℕ) → s ≡ x → from_on s (x ∷ rest) ≡ x ∷ rest
from-here s x rest e = rw (same s x e) refl

from-rest : (s x : ℕ) (rest : List ℕ) → s ≢ x → from_on s (x ∷ rest) ≡ from_on s rest
from-rest s x rest ne = rw (other s x ne) refl

from-first : (order : List ℕ) → from_on (first_of order) order ≡ order
from-first [] = refl
from-first (x ∷ rest) = from-here x x rest refl

from-none : (s : ℕ) (order : List ℕ) → has s order ≡ false → from_on s order ≡ []
from-none s [] none = refl
from-none s (x ∷ rest) none =
    from-rest s x rest (none-first s x rest none) ∙ from-none s rest (none-rest s x rest none)

-- what isn't in a list doesn't follow in it
first-not : (x : ℕ) (xs : List ℕ) → has x xs ≡ false → x ≢ 0 → first_of xs ≢ x
first-not x [] none some bad = some (sym bad)
first-not x (y ∷ ys) none some bad = none-first x y ys none (sym bad)

next-not : (x s : ℕ) (xs : List ℕ) → has x xs ≡ false → x ≢ 0 → next_of s xs ≢ x
next-not x s [] none some = λ bad. some (sym bad)
next-not x s (y ∷ ys) none some =
    ⊎_elim
    (λ (e : s ≡ y). rw (same s y e) (first-not x ys (none-rest x y ys none) some))
    (λ (ne : s ≢ y). rw (other s y ne) (next-not x s ys (none-rest x y ys none) some))
    (cases_eq s y)

next-here : (s x : ℕ) (rest : List ℕ) → s ≡ x → next_of s (x ∷ rest) ≡ first_of rest
next-here s x rest e = rw (same s x e) refl

next-rest : (s x : ℕ) (rest : List ℕ) → s ≢ x → next_of s (x ∷ rest) ≡ next_of s rest
next-rest s x rest ne = rw (other s x ne) refl

-- from a number on a list has that number and what is from the next one on
from-next : (s : ℕ) (order : List ℕ) → IsOnce order → has 0 order ≡ false → has s order ≡ true →
    from_on s order ≡ s ∷ from_on (next_of s order) order
from-next s [] once no_zero has_s = absurd (true≢false (sym has_s))
from-next s (x ∷ rest) once no_zero has_s =
    let some : x ≢ 0 = λ bad. none-first 0 x rest no_zero (sym bad) in
    ⊎_elim
    (λ (e : s ≡ x).
    from-here s x rest e
    ∙ ap (λ (n : ℕ). n ∷ rest) (sym e)
    ∙ ap (λ (l : List ℕ). s ∷ l)
    (sym (ap (λ (n : ℕ). from_on n (x ∷ rest)) (next-here s x rest e)
    ∙ from-rest (first_of rest) x rest (first-not x rest once.0 some)
    ∙ from-first rest)))
    (λ (ne : s ≢ x).
    from-rest s x rest ne
    ∙ from-next s rest once.1 (none-rest 0 x rest no_zero) (sym (has-rest s x rest ne) ∙ has_s)
    ∙ ap (λ (l : List ℕ). s ∷ l)
    (sym (ap (λ (n : ℕ). from_on n (x ∷ rest)) (next-rest s x rest ne)
    ∙ from-rest (next_of s rest) x rest (next-not x s rest once.0 some))))
    (cases_eq s x)

-- no search has the number 0
no-zero : (H : List Entry) (order : List ℕ) → IsLegal H → IsTurnOrder H order → has 0 order ≡ false
no-zero H order legal turns =
    ⊎_elim
    (λ (there : has 0 order ≡ true).
    let active = turns.only 0 there in
    let some : 1 ≤ active.opening.search =
    number-at-least (λ (o : Opening). o.search) 1 (openings H) (openings-numbered H legal) active.opening
    active.there in
    absurd (omega (arith, some, active.numbered)))
    (λ (none : has 0 order ≡ false). none)
    (cases_Bool (has 0 order))

pub walk-start : (H : List Entry) (m : ℕ) (order : List ℕ) →
    first_due_from H m (first_of order) order ≡ first_due H m order
walk-start H m order = ap (first_due H m) (from-first order)

pub walk-next : (H : List Entry) (m s : ℕ) (order : List ℕ) → IsLegal H → IsTurnOrder H order → has s order ≡ true →
    first_due_from H m s order ≡ option_or (due_in_search H s m) (first_due_from H m (next_of s order) order)
walk-next H m s order legal turns has_s =
    ap (first_due H m) (from-next s order turns.once (no-zero H order legal turns) has_s)

pub walk-end : (H : List Entry) (m : ℕ) (order : List ℕ) → IsLegal H → IsTurnOrder H order →
    first_due_from H m 0 order ≡ None
walk-end H m order legal turns = ap (first_due H m) (from-none 0 order (no-zero H order legal turns))
