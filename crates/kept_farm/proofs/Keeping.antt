-- What is kept beside each entry, where the history grows by an entry or loses its last.
use Rattle.std.proofs.Common.{◌≡◌, ◌≢◌, ℕ, ◌+◌, ◌-◌, ◌<◌, ◌≤◌, List, [], ◌∷◌, ◌++◌, length, take, drop, get_or, slice_get, Some, sym, ap, subst, ◌∙◌, ⊎_elim, arith, length-append}
use Rattle.std.proofs.lemmas.Bool.{cases_lt}
use Rattle.std.proofs.lemmas.List.{length-take-le, take-append-drop, take-append-le, take_all}
use Rattle.std.proofs.lemmas.Option.{get_or_from_slice_get}
use Rattle.farm_entry.specs.Legal.{IsLegal}
use Rattle.farm_entry.specs.declared.entry.Entry.{Entry}
use Rattle.farm_laws.proofs.Induct.{IsLegal-first}
use Rattle.farm_laws.proofs.Replies.{slice_get-first, slice_get-last}
use Rattle.kept_farm.specs.Beside.{AreBeside}

-- a legal history isn't empty, and its fronts are legal
pub some-legal : (H : List Entry) → IsLegal H → 0 < length H
some-legal [] legal = absurd legal
some-legal (e ∷ H) legal = omega arith

pub legal-front : (H : List Entry) (n : ℕ) → IsLegal H → 0 < n → n ≤ length H → IsLegal (take n H)
legal-front H n legal some within =
    let long : length (take n H) ≡ n = length-take-le n H within in
    let filled : take n H ≢ [] = λ h.
    let none : length (take n H) ≡ 0 = ap length h in absurd (omega (arith, long, none)) in
    IsLegal-first (take n H) (drop n H) filled (subst IsLegal (sym (take-append-drop n H)) legal)

-- an element of a front stands in the list
slice_get-take : {X : Type 0} (xs : List X) (n k : ℕ) → k < n → n ≤ length xs → slice_get (take n xs) k ≡ slice_get xs k
slice_get-take xs n k before within =
    let long : length (take n xs) ≡ n = length-take-le n xs within in
    sym (slice_get-first (take n xs) (drop n xs) k (omega arith)) ∙ ap (λ l. slice_get l k) (take-append-drop n xs)

-- a front of a front
take-of_take : {X : Type 0} (xs : List X) (n k : ℕ) → k ≤ n → n ≤ length xs → take k (take n xs) ≡ take k xs
take-of_take xs n k before within =
    let long : length (take n xs) ≡ n = length-take-le n xs within in
    sym (take-append-le k (take n xs) (drop n xs) (omega arith)) ∙ ap (λ l. take k l) (take-append-drop n xs)

-- what is kept beside a front
pub beside-front : {X : Type 0} (gives : List Entry → X) (H : List Entry) (xs : List X) (n : ℕ) → AreBeside gives H xs →
    n ≤ length H → AreBeside gives (take n H) (take n xs)
beside-front gives H xs n all within =
    let both = all.as_many in
    let fewer : n ≤ length xs = omega (arith, both) in
    let long : length (take n H) ≡ n = length-take-le n H within in
    let longer : length (take n xs) ≡ n = length-take-le n xs fewer in
    record {
      as_many = longer ∙ sym long;
      each = λ k below.
          let inside : k < n = omega (arith, long) in
          slice_get-take xs n k inside fewer
          ∙ all.each k (omega arith)
          ∙ ap (λ (G : List Entry). Some (gives G)) (sym (take-of_take H n (k + 1) (omega arith) within));
    }

-- and with an entry appended
pub beside-push : {X : Type 0} (gives : List Entry → X) (H : List Entry) (xs : List X) (e : Entry) (x : X) →
    AreBeside gives H xs → x ≡ gives (H ++ e ∷ []) → AreBeside gives (H ++ e ∷ []) (xs ++ x ∷ [])
beside-push gives H xs e x all is =
    let both = all.as_many in
    let entries : length (H ++ e ∷ []) ≡ length H + 1 = length-append H (e ∷ []) in
    let counts : length (xs ++ x ∷ []) ≡ length xs + 1 = length-append xs (x ∷ []) in
    record {
      as_many = omega (arith, both, entries, counts);
      each = λ k below. ⊎_elim
          (λ (before : k < length H).
          slice_get-first xs (x ∷ []) k (omega (arith, both))
          ∙ all.each k before
          ∙ ap (λ (G : List Entry). Some (gives G)) (sym (take-append-le (k + 1) H (e ∷ []) (omega arith))))
          (λ (past : length H ≤ k).
          let at : length xs ≡ k = omega (arith, both, entries) in
          subst (λ (i : ℕ). slice_get (xs ++ x ∷ []) i ≡ Some (gives (take (k + 1) (H ++ e ∷ [])))) at
          (slice_get-last xs x
          ∙ ap Some is
          ∙ ap (λ (G : List Entry). Some (gives G)) (sym (take_all (k + 1) (H ++ e ∷ []) (omega (arith, entries))))))
          (cases_lt k (length H));
    }

-- what stands at a place
pub beside-at : {X : Type 0} (gives : List Entry → X) (H : List Entry) (xs : List X) (k : ℕ) (d : X) →
    AreBeside gives H xs → k < length H → get_or xs k d ≡ gives (take (k + 1) H)
beside-at gives H xs k d all below = get_or_from_slice_get xs k (gives (take (k + 1) H)) d (all.each k below)

-- and at the last one
pub beside-last : {X : Type 0} (gives : List Entry → X) (H : List Entry) (xs : List X) (n : ℕ) (d : X) →
    AreBeside gives H xs → n ≡ length xs → 0 < n → get_or xs (n - 1) d ≡ gives H
beside-last gives H xs n d all count some =
    let both = all.as_many in
    beside-at gives H xs (n - 1) d all (omega (arith, both, count, some))
    ∙ ap gives (take_all (n - 1 + 1) H (omega (arith, both, count, some)))

-- What is kept after a call, by what the call changed.

pub beside-same : {X : Type 0} (gives : List Entry → X) (H G : List Entry) (xs ys : List X) → AreBeside gives H xs →
    G ≡ H → ys ≡ xs → AreBeside gives G ys
beside-same gives H G xs ys all same kept =
    subst (λ (L : List Entry). AreBeside gives L ys) (sym same) (subst (AreBeside gives H) (sym kept) all)

-- an entry more
pub beside-pushed : {X : Type 0} (gives : List Entry → X) (H G : List Entry) (xs ys : List X) (e : Entry) (x : X) →
    AreBeside gives H xs → G ≡ H ++ e ∷ [] → ys ≡ xs ++ x ∷ [] → x ≡ gives (H ++ e ∷ []) → AreBeside gives G ys
beside-pushed gives H G xs ys e x all more kept is =
    beside-same gives (H ++ e ∷ []) G (xs ++ x ∷ []) ys (beside-push gives H xs e x all is) more kept

-- the last one less
pub beside-popped : {X : Type 0} (gives : List Entry → X) (H G : List Entry) (xs ys : List X) (n : ℕ) →
    AreBeside gives H xs → n ≡ length xs → G ≡ take (length H - 1) H → ys ≡ take (n - 1) xs → AreBeside gives G ys
beside-popped gives H G xs ys n all count less kept =
    let both = all.as_many in
    let last : n - 1 ≡ length H - 1 = omega (arith, both, count) in
    beside-same gives (take (length H - 1) H) G (take (length H - 1) xs) ys
    (beside-front gives H xs (length H - 1) all (omega arith)) less (kept ∙ ap (λ (k : ℕ). take k xs) last)
