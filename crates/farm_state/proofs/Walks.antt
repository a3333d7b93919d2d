-- A walk along the order of turns.
use Rattle.std.proofs.Common.{◌≡◌, ◌≢◌, ℕ, ◌<◌, ◌≤◌, ◌+◌, ◌⊎◌, true, false, List, [], ◌∷◌, ◌++◌, length, Option, Some, None, refl, sym, ap, subst, ◌∙◌, ⊎_elim, arith, true≢false}
use Rattle.std.specs.Option.{option_or}
use Rattle.std.proofs.lemmas.Bool.{cases_Bool, cases_eq}
use Rattle.search_books.specs.Order.{has, first_of, next_of, IsOnce}
use Rattle.search_books.proofs.Lists.{has-here, has-rest, has-there, none-first, none-rest, other, same}
use Rattle.farm_entry.specs.Due.{next_run}
use Rattle.farm_entry.specs.declared.lease.DueRun.{DueRun}
use Rattle.farm_entry.specs.declared.limits.TheConstants.{MAX_SEARCHES}
use Rattle.farm_laws.proofs.Bounds.{openings-bounded}
use Rattle.farm_state.specs.TurnOrder.{IsTurnOrder, due_in_search, first_due_from, from_on}
use Rattle.farm_state.proofs.Along.{next-first}
use Rattle.farm_state.proofs.FromOn.{walk-end, walk-next, walk-start}
use Rattle.farm_state.proofs.Parts.{has-either, parts-order}
use Rattle.farm_state.specs.TurnsInside.{AreFarmTurns}
use Rattle.farm_state.specs.Walking.{IsAt}
use Rattle.farm_state.specs.declared.turns.FarmTurns.TheInside.{Inside}
use Rattle.farm_state.proofs.Closing.{turns-kept}
use Rattle.farm_state.proofs.Steps.{AreTurnsOf, not-zero, within}

from-here : (s x : ℕ) (xs : List ℕ) → s ≡ x → from_on s (x ∷ xs) ≡ x ∷ xs
from-here s x xs e = rw (same s x e) refl

from-there : (s x : ℕ) (xs : List ℕ) → s ≢ x → from_on s (x ∷ xs) ≡ from_on s xs
from-there s x xs ne = rw (other s x ne) refl

next-here : (s x : ℕ) (xs : List ℕ) → s ≡ x → next_of s (x ∷ xs) ≡ first_of xs
next-here s x xs e = rw (same s x e) refl

next-rest : (s x : ℕ) (xs : List ℕ) → s ≢ x → next_of s (x ∷ xs) ≡ next_of s xs
next-rest s x xs ne = rw (other s x ne) refl

first-shorter : (xs : List ℕ) → length (from_on (first_of xs) xs) ≡ length xs
first-shorter [] = refl
first-shorter (x ∷ xs) = ap length (from-here x x xs refl)

-- a number that isn't in the list isn't behind one in it
first-other : (x : ℕ) (xs : List ℕ) → has x xs ≡ false → x ≢ 0 → first_of xs ≢ x
first-other x [] none some bad = some (sym bad)
first-other x (y ∷ ys) none some bad = none-first x y ys none (sym bad)

next-other : (x s : ℕ) (xs : List ℕ) → has x xs ≡ false → x ≢ 0 → next_of s xs ≢ x
next-other x s [] none some = λ bad. some (sym bad)
next-other x s (y ∷ ys) none some =
    ⊎_elim
    (λ (e : s ≡ y). rw (same s y e) (first-other x ys (none-rest x y ys none) some))
    (λ (ne : s ≢ y). rw (other s y ne) (next-other x s ys (none-rest x y ys none) some))
    (cases_eq s y)

-- less is left from the next number on
pub next-shorter : (s : ℕ) (xs : List ℕ) → IsOnce xs → has 0 xs ≡ false → has s xs ≡ true →
    length (from_on (next_of s xs) xs) < length (from_on s xs)
next-shorter s [] once no_zero h = absurd (true≢false (sym h))
next-shorter s (x ∷ xs) once no_zero h =
    let some : x ≢ 0 = λ bad. none-first 0 x xs no_zero (sym bad) in
    ⊎_elim
    (λ (e : s ≡ x).
    let next : next_of s (x ∷ xs) ≡ first_of xs = next-here s x xs e in
    let ne : first_of xs ≢ x = first-other x xs once.0 some in
    let from : length (from_on s (x ∷ xs)) ≡ length xs + 1 = ap length (from-here s x xs e) ∙ omega arith in
    let rest : length (from_on (next_of s (x ∷ xs)) (x ∷ xs)) ≡ length xs =
    ap (λ (n : ℕ). length (from_on n (x ∷ xs))) next
    ∙ ap length (from-there (first_of xs) x xs ne)
    ∙ first-shorter xs in
    omega (arith, from, rest))
    (λ (no : s ≢ x).
    let next : next_of s (x ∷ xs) ≡ next_of s xs = next-rest s x xs no in
    let ne : next_of s xs ≢ x = next-other x s xs once.0 some in
    let from : length (from_on s (x ∷ xs)) ≡ length (from_on s xs) = ap length (from-there s x xs no) in
    let rest : length (from_on (next_of s (x ∷ xs)) (x ∷ xs)) ≡ length (from_on (next_of s xs) xs) =
    ap (λ (n : ℕ). length (from_on n (x ∷ xs))) next ∙ ap length (from-there (next_of s xs) x xs ne) in
    let less = next-shorter s xs once.1 (none-rest 0 x xs no_zero) (sym (has-rest s x xs no) ∙ h) in
    omega (arith, from, rest, less))
    (cases_eq s x)

-- the first number, and the next one, stand in the list where there is one
pub first-there : (xs : List ℕ) → first_of xs ≢ 0 → has (first_of xs) xs ≡ true
first-there [] some = absurd (some refl)
first-there (x ∷ xs) some = has-here x x xs refl

pub next-there : (s : ℕ) (xs : List ℕ) → next_of s xs ≢ 0 → has (next_of s xs) xs ≡ true
next-there s [] some = absurd (some refl)
next-there s (x ∷ xs) some =
    ⊎_elim
    (λ (e : s ≡ x).
    let here : next_of s (x ∷ xs) ≡ first_of xs = next-here s x xs e in
    ap (λ (n : ℕ). has n (x ∷ xs)) here
    ∙ has-there (first_of xs) x xs (first-there xs (λ bad. some (here ∙ bad))))
    (λ (no : s ≢ x).
    let here : next_of s (x ∷ xs) ≡ next_of s xs = next-rest s x xs no in
    ap (λ (n : ℕ). has n (x ∷ xs)) here
    ∙ has-there (next_of s xs) x xs (next-there s xs (λ bad. some (here ∙ bad))))
    (cases_eq s x)

-- The walk of a farm.

abbrev pub order_in : Inside → List ℕ
order_in s = s.active.never ++ s.active.leased

turn-order : (s : Inside) → AreFarmTurns s → IsTurnOrder s.state (order_in s)
turn-order s f =
    parts-order s.state s.active.never s.active.leased
    (subst (AreTurnsOf s.state) (sym f.turns) (turns-kept s.state f.legal))

no-zero : (s : Inside) → AreFarmTurns s → has 0 (order_in s) ≡ false
no-zero s f =
    ⊎_elim
    (λ (h : has 0 (order_in s) ≡ true). absurd (not-zero s.state f.legal ((turn-order s f).only 0 h)))
    (λ (none : has 0 (order_in s) ≡ false). none)
    (cases_Bool (has 0 (order_in s)))

pub at-first : (s : Inside) (m : ℕ) → AreFarmTurns s → IsAt s.state m (order_in s) (first_of (order_in s))
at-first s m f = record {
  there = first-there (order_in s);
  due = walk-start s.state m (order_in s) ∙ sym (next-first s.state m (order_in s) f.legal (turn-order s f));
}

-- what is due from a search on is what is due in it, or from the next one on
due-here : (s : Inside) (m n : ℕ) → AreFarmTurns s → IsAt s.state m (order_in s) n → n ≢ 0 →
    next_run s.state m
    ≡ option_or (due_in_search s.state n m) (first_due_from s.state m (next_of n (order_in s)) (order_in s))
due-here s m n f at some =
    sym at.due ∙ walk-next s.state m n (order_in s) f.legal (turn-order s f) (at.there some)

pub at-next : (s : Inside) (m n : ℕ) → AreFarmTurns s → IsAt s.state m (order_in s) n → n ≢ 0 →
    due_in_search s.state n m ≡ None → IsAt s.state m (order_in s) (next_of n (order_in s))
at-next s m n f at some none =
    let rest = first_due_from s.state m (next_of n (order_in s)) (order_in s) in
    record {
      there = next-there n (order_in s);
      due = sym (due-here s m n f at some ∙ ap (λ (x : Option DueRun). option_or x rest) none);
    }

pub at-found : (s : Inside) (m n : ℕ) (d : DueRun) → AreFarmTurns s → IsAt s.state m (order_in s) n → n ≢ 0 →
    due_in_search s.state n m ≡ Some d → next_run s.state m ≡ Some d
at-found s m n d f at some is =
    let rest = first_due_from s.state m (next_of n (order_in s)) (order_in s) in
    due-here s m n f at some ∙ ap (λ (x : Option DueRun). option_or x rest) is

pub at-end : (s : Inside) (m n : ℕ) → AreFarmTurns s → IsAt s.state m (order_in s) n → n ≡ 0 → next_run s.state m ≡ None
at-end s m n f at none =
    sym at.due
    ∙ ap (λ (k : ℕ). first_due_from s.state m k (order_in s)) none
    ∙ walk-end s.state m (order_in s) f.legal (turn-order s f)

pub stands-at : (s : Inside) (m n : ℕ) → IsAt s.state m (order_in s) n → n ≢ 0 →
    (has n s.active.never ≡ true) ⊎ (has n s.active.leased ≡ true)
stands-at s m n at some = has-either n s.active.never s.active.leased (at.there some)

pub low-at : (s : Inside) (m n : ℕ) → AreFarmTurns s → IsAt s.state m (order_in s) n → n ≢ 0 → n ≤ MAX_SEARCHES
low-at s m n f at some =
    let high = (within s.state n f.legal ((turn-order s f).only n (at.there some))).1 in
    let few = openings-bounded s.state f.legal in
    omega (arith, high, few)

pub less-left : (s : Inside) (m n : ℕ) → AreFarmTurns s → IsAt s.state m (order_in s) n → n ≢ 0 →
    length (from_on (next_of n (order_in s)) (order_in s)) < length (from_on n (order_in s))
less-left s m n f at some = next-shorter n (order_in s) (turn-order s f).once (no-zero s f) (at.there some)
