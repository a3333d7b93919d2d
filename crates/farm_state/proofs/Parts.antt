-- Lists of searches by turns: one behind another, with a number struck, and with one more at the end.
use Rattle.std.proofs.Common.{◌≡◌, ◌≢◌, ℕ, ◌⊎◌, Bool, true, false, List, [], ◌∷◌, ◌++◌, refl, sym, ap, subst, inl, inr, ◌∙◌, ⊎_elim, arith}
use Rattle.std.proofs.lemmas.Bool.{cases_Bool, cases_eq, true≢false}
use Rattle.search_books.specs.Order.{has, strike, IsOnce}
use Rattle.search_books.proofs.Lists.{has-here, has-rest, has-there, none-first, none-rest, other, same, strike-gone, strike-none}
use Rattle.farm_state.specs.WhoseTurn.{ComesBefore}
use Rattle.farm_entry.specs.History.{last_lease}
use Rattle.farm_entry.specs.declared.entry.Entry.{Entry}
use Rattle.farm_state.specs.TurnOrder.{AreByTurns, AreTurns, IsTurnOrder}

pub not-both : (b : Bool) → b ≡ true → b ≡ false → ⊥
not-both b yes_b no_b = true≢false (sym yes_b ∙ no_b)

-- a number in a list that is struck stands in the list, and is another one
pub struck-has : (s t : ℕ) (xs : List ℕ) → has t (strike s xs) ≡ true → has t xs ≡ true
struck-has s t xs h =
    ⊎_elim (λ (yes_t : has t xs ≡ true). yes_t)
    (λ (none : has t xs ≡ false). absurd (not-both _ h (strike-none s t xs none)))
    (cases_Bool (has t xs))

pub struck-other : (s t : ℕ) (xs : List ℕ) → IsOnce xs → has t (strike s xs) ≡ true → t ≢ s
struck-other s t xs once h same =
    not-both _ h (ap (λ (n : ℕ). has n (strike s xs)) same ∙ strike-gone s xs once)

-- one more at the end
pub snoc-here : (s : ℕ) (xs : List ℕ) → has s (xs ++ s ∷ []) ≡ true
snoc-here s [] = has-here s s [] refl
snoc-here s (x ∷ xs) = has-there s x (xs ++ s ∷ []) (snoc-here s xs)

pub has-left : (t : ℕ) (xs ys : List ℕ) → has t xs ≡ true → has t (xs ++ ys) ≡ true
has-left t [] ys h = absurd (true≢false (sym h))
has-left t (x ∷ xs) ys h =
    ⊎_elim
    (λ (e : t ≡ x). has-here t x (xs ++ ys) e)
    (λ (ne : t ≢ x). has-there t x (xs ++ ys) (has-left t xs ys (sym (has-rest t x xs ne) ∙ h)))
    (cases_eq t x)

pub has-right : (t : ℕ) (xs ys : List ℕ) → has t ys ≡ true → has t (xs ++ ys) ≡ true
has-right t [] ys h = h
has-right t (x ∷ xs) ys h = has-there t x (xs ++ ys) (has-right t xs ys h)

pub has-either : (t : ℕ) (xs ys : List ℕ) → has t (xs ++ ys) ≡ true → (has t xs ≡ true) ⊎ (has t ys ≡ true)
has-either t [] ys h = inr h
has-either t (x ∷ xs) ys h =
    ⊎_elim
    (λ (e : t ≡ x). inl (has-here t x xs e))
    (λ (ne : t ≢ x).
    ⊎_elim
    (λ (l : has t xs ≡ true). inl (has-there t x xs l))
    (λ (r : has t ys ≡ true). inr r)
    (has-either t xs ys (sym (has-rest t x (xs ++ ys) ne) ∙ h)))
    (cases_eq t x)

not-has : (t : ℕ) (xs : List ℕ) → (has t xs ≡ true → ⊥) → has t xs ≡ false
not-has t xs never =
    ⊎_elim (λ (yes_t : has t xs ≡ true). absurd (never yes_t)) (λ (none : has t xs ≡ false). none)
    (cases_Bool (has t xs))

pub append-once : (xs ys : List ℕ) → IsOnce xs → IsOnce ys → ((t : ℕ) → has t xs ≡ true → has t ys ≡ true → ⊥) →
    IsOnce (xs ++ ys)
append-once [] ys once_xs once_ys apart = once_ys
append-once (x ∷ xs) ys once_xs once_ys apart = (
  not-has x (xs ++ ys) (λ h.
      ⊎_elim (λ (l : has x xs ≡ true). not-both _ l once_xs.0)
      (λ (r : has x ys ≡ true). apart x (has-here x x xs refl) r)
      (has-either x xs ys h)),
  append-once xs ys once_xs.1 once_ys (λ t l r. apart t (has-there t x xs l) r),
)

pub one-has : (t s : ℕ) → has t (s ∷ []) ≡ true → t ≡ s
one-has t s h =
    ⊎_elim (λ (e : t ≡ s). e) (λ (ne : t ≢ s). absurd (not-both _ h (has-rest t s [] ne))) (cases_eq t s)

-- one more at the end, which isn't there
pub snoc-once : (s : ℕ) (xs : List ℕ) → IsOnce xs → has s xs ≡ false → IsOnce (xs ++ s ∷ [])
snoc-once s xs once none =
    append-once xs (s ∷ []) once (refl, tt)
    (λ t l r. not-both _ l (ap (λ (n : ℕ). has n xs) (one-has t s r) ∙ none))

-- and it is struck again
pub strike-snoc : (s : ℕ) (xs : List ℕ) → has s xs ≡ false → strike s (xs ++ s ∷ []) ≡ xs
strike-snoc s [] none = rw (same s s refl) refl
strike-snoc s (x ∷ xs) none =
    rw (other s x (none-first s x xs none))
    (ap (λ (rest : List ℕ). x ∷ rest) (strike-snoc s xs (none-rest s x xs none)))

-- By turns.

pub append-turns : (H : List Entry) (xs ys : List ℕ) → AreByTurns H xs → AreByTurns H ys →
    ((s t : ℕ) → has s xs ≡ true → has t ys ≡ true → ComesBefore H s t) → AreByTurns H (xs ++ ys)
append-turns H [] ys turns_xs turns_ys before = turns_ys
append-turns H (x ∷ xs) ys turns_xs turns_ys before = (
  λ t h.
      ⊎_elim (λ (l : has t xs ≡ true). turns_xs.0 t l)
      (λ (r : has t ys ≡ true). before x t (has-here x x xs refl) r)
      (has-either t xs ys h),
  append-turns H xs ys turns_xs.1 turns_ys (λ s t l r. before s t (has-there s x xs l) r),
)

pub snoc-turns : (H : List Entry) (s : ℕ) (xs : List ℕ) → AreByTurns H xs →
    ((t : ℕ) → has t xs ≡ true → ComesBefore H t s) → AreByTurns H (xs ++ s ∷ [])
snoc-turns H s xs turns before =
    append-turns H xs (s ∷ []) turns (λ t h. absurd (true≢false (sym h)), tt)
    (λ t u l r. subst (λ (n : ℕ). ComesBefore H t n) (sym (one-has u s r)) (before t l))

pub strike-turns : (H : List Entry) (s : ℕ) (xs : List ℕ) → AreByTurns H xs → AreByTurns H (strike s xs)
strike-turns H s [] turns = turns
strike-turns H s (x ∷ xs) turns =
    ⊎_elim
    (λ (e : s ≡ x). rw (same s x e) turns.1)
    (λ (ne : s ≢ x).
    rw (other s x ne) (λ t h. turns.0 t (struck-has s t xs h), strike-turns H s xs turns.1))
    (cases_eq s x)

kept-before : (H G : List Entry) (s t : ℕ) → last_lease G s ≡ last_lease H s → last_lease G t ≡ last_lease H t →
    ComesBefore H s t → ComesBefore G s t
kept-before H G s t at_s at_t (inl less) = inl (omega (arith, at_s, at_t, less))
kept-before H G s t at_s at_t (inr less) = inr (at_s ∙ less.0 ∙ sym at_t, less.1)

-- searches whose last leases stay keep their turns
pub kept-turns : (H G : List Entry) (xs : List ℕ) →
    ((t : ℕ) → has t xs ≡ true → last_lease G t ≡ last_lease H t) → AreByTurns H xs → AreByTurns G xs
kept-turns H G [] kept turns = turns
kept-turns H G (x ∷ xs) kept turns = (
  λ t h.
      kept-before H G x t (kept x (has-here x x xs refl)) (kept t (has-there t x xs h)) (turns.0 t h),
  kept-turns H G xs (λ t h. kept t (has-there t x xs h)) turns.1,
)

-- the two parts make up the order
pub parts-order : (H : List Entry) (never leased : List ℕ) → AreTurns H never leased → IsTurnOrder H (never ++ leased)
parts-order H never leased turns = record {
  once = append-once never leased turns.never_once turns.leased_once
      (λ t l r. omega (arith, turns.fresh t l, turns.waiting t r));
  all = λ o there active.
      ⊎_elim
      (λ (l : has o.search never ≡ true). has-left o.search never leased l)
      (λ (r : has o.search leased ≡ true). has-right o.search never leased r)
      (turns.all o there active);
  only = λ s h. turns.only s (has-either s never leased h);
  by_turns = append-turns H never leased turns.never_by_turns turns.leased_by_turns
      (λ s t l r. inl (omega (arith, turns.fresh s l, turns.waiting t r)));
}
