-- How many searches stand before the first that waits for an order, beside each entry of a history that grows or loses
-- its last.
use Rattle.std.proofs.Common.{◌≡◌, ℕ, ◌+◌, ◌-◌, ◌<◌, ◌≤◌, List, [], ◌∷◌, ◌++◌, length, take, drop, get_or, sym, ap, subst, ◌∙◌, ⊎_elim, arith, length-append}
use Rattle.std.proofs.lemmas.Bool.{cases_lt}
use Rattle.std.proofs.lemmas.Grind.{get_or_default_zero}
use Rattle.std.proofs.lemmas.List.{get_or-take, get_or_append_left, get_or_push, length-take-le, take-append-drop, take-append-le, take_all}
use Rattle.farm_entry.specs.Legal.{IsLegal}
use Rattle.farm_entry.specs.declared.entry.Entry.{Entry}
use Rattle.farm_ledger.specs.Waiting.{AreLowest, IsLowest}

-- a legal history isn't empty
legal-some : (H : List Entry) → IsLegal H → 0 < length H
legal-some [] legal = absurd legal
legal-some (e ∷ H) legal = omega arith

-- what stands beside the last entry
pub lows-last : (H : List Entry) (lows : List ℕ) (n x : ℕ) → IsLegal H → AreLowest H lows → n ≡ length lows →
    x ≡ get_or lows (n - 1) x → IsLowest H x
lows-last H lows n x legal all count is =
    let some : 0 < length H = legal-some H legal in
    let both = all.as_many in
    let below : n - 1 < length H = omega (arith, both, count, some) in
    let here : get_or lows (n - 1) 0 ≡ x =
    sym (is ∙ get_or_default_zero lows (n - 1) x (omega (arith, both, below))) in
    subst (λ (low : ℕ). IsLowest H low) here
    (subst (λ (G : List Entry). IsLowest G (get_or lows (n - 1) 0))
    (take_all (n - 1 + 1) H (omega (arith, both, count, some))) (all.each (n - 1) below))

-- an entry more
lows-push : (H : List Entry) (e : Entry) (xs : List ℕ) (x : ℕ) → AreLowest H xs → IsLowest (H ++ e ∷ []) x →
    AreLowest (H ++ e ∷ []) (xs ++ x ∷ [])
lows-push H e xs x all is =
    let both = all.as_many in
    let entries : length (H ++ e ∷ []) ≡ length H + 1 = length-append H (e ∷ []) in
    let counts : length (xs ++ x ∷ []) ≡ length xs + 1 = length-append xs (x ∷ []) in
    record {
      as_many = omega (arith, both, entries, counts);
      each = λ k below. ⊎_elim
          (λ (before : k < length H).
          subst (λ (low : ℕ). IsLowest (take (k + 1) (H ++ e ∷ [])) low)
          (sym (get_or_append_left xs (x ∷ []) 0 k (omega (arith, both, before))))
          (subst (λ (G : List Entry). IsLowest G (get_or xs k 0))
          (sym (take-append-le (k + 1) H (e ∷ []) (omega (arith, before)))) (all.each k before)))
          (λ (past : length H ≤ k).
          let at : length xs ≡ k = omega (arith, both, entries, past, below) in
          subst (λ (low : ℕ). IsLowest (take (k + 1) (H ++ e ∷ [])) low) (sym (get_or_push xs x 0 k at))
          (subst (λ (G : List Entry). IsLowest G x)
          (sym (take_all (k + 1) (H ++ e ∷ []) (omega (arith, entries, past)))) is))
          (cases_lt k (length H));
    }

pub lows-pushed : (H G : List Entry) (e : Entry) (xs ys : List ℕ) (x : ℕ) → AreLowest H xs → G ≡ H ++ e ∷ [] →
    ys ≡ xs ++ x ∷ [] → IsLowest G x → AreLowest G ys
lows-pushed H G e xs ys x all more kept is =
    let longer = lows-push H e xs x all (subst (λ (X : List Entry). IsLowest X x) more is) in
    subst (λ (X : List Entry). AreLowest X ys) (sym more)
    (subst (λ (l : List ℕ). AreLowest (H ++ e ∷ []) l) (sym kept) longer)

-- the last entry less
lows-front : (H : List Entry) (xs : List ℕ) (n : ℕ) → AreLowest H xs → n ≤ length H → AreLowest (take n H) (take n xs)
lows-front H xs n all within =
    let both = all.as_many in
    let long : length (take n H) ≡ n = length-take-le n H within in
    let longer : length (take n xs) ≡ n = length-take-le n xs (omega (arith, both, within)) in
    record {
      as_many = longer ∙ sym long;
      each = λ k below.
          let inside : k < n = omega (arith, long, below) in
          let front : take (k + 1) (take n H) ≡ take (k + 1) H =
          sym (take-append-le (k + 1) (take n H) (drop n H) (omega (arith, long, inside)))
          ∙ ap (λ (G : List Entry). take (k + 1) G) (take-append-drop n H) in
          subst (λ (low : ℕ). IsLowest (take (k + 1) (take n H)) low) (sym (get_or-take n xs k 0 inside))
          (subst (λ (G : List Entry). IsLowest G (get_or xs k 0)) (sym front)
          (all.each k (omega (arith, inside, within))));
    }

pub lows-popped : (H G : List Entry) (xs ys : List ℕ) (n : ℕ) → AreLowest H xs → n ≡ length xs →
    G ≡ take (length H - 1) H → ys ≡ take (n - 1) xs → AreLowest G ys
lows-popped H G xs ys n all count less kept =
    let both = all.as_many in
    let last : n - 1 ≡ length H - 1 = omega (arith, both, count) in
    let shorter = lows-front H xs (length H - 1) all (omega arith) in
    let all_but : ys ≡ take (length H - 1) xs = kept ∙ ap (λ (k : ℕ). take k xs) last in
    subst (λ (X : List Entry). AreLowest X ys) (sym less)
    (subst (λ (l : List ℕ). AreLowest (take (length H - 1) H) l) (sym all_but) shorter)
