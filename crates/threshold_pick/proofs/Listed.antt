-- The skipped positions of a search, listed one by one.
use Rattle.std.proofs.Common.{◌≡◌, ℕ, zero, suc, ◌+◌, Bool, true, false, List, [], ◌∷◌, ◌++◌, refl, sym, ap, ◌∙◌, arith}
use Rattle.std.proofs.lemmas.List.Elements.{filter-append}
use Rattle.std.specs.List.{filter, range_with_len}
use Rattle.threshold_pick.specs.Open.{is_skipped}

-- a range of one more number
range_more : (a n : ℕ) → range_with_len a (suc n) ≡ range_with_len a n ++ (a + n) ∷ []
range_more a zero = let e : a + 0 ≡ a = omega arith in rw e refl
range_more a (suc n) =
    let e : a + 1 + n ≡ a + suc n = omega arith in
    let rest : range_with_len (a + 1) (suc n) ≡ range_with_len (a + 1) n ++ (a + suc n) ∷ [] =
    range_more (a + 1) n ∙ ap (λ (i : ℕ). range_with_len (a + 1) n ++ i ∷ []) e in
    ap (λ (xs : List ℕ). a ∷ xs) rest

filter_more : (test : ℕ → Bool) (n : ℕ) →
    filter test (range_with_len 0 (n + 1)) ≡ filter test (range_with_len 0 n) ++ filter test (n ∷ [])
filter_more test n =
    let e : n + 1 ≡ suc n = omega arith in
    let zero_is : 0 + n ≡ n = omega arith in
    ap (λ (k : ℕ). filter test (range_with_len 0 k)) e
    ∙ ap (filter test) (range_more 0 n ∙ ap (λ (i : ℕ). range_with_len 0 n ++ i ∷ []) zero_is)
    ∙ filter-append test (range_with_len 0 n) (n ∷ [])

-- one that was skipped is listed next, and another one isn't
pub listed-skipped : (skipped listed after : List ℕ) (n : ℕ) →
    listed ≡ filter (is_skipped skipped) (range_with_len 0 n) → is_skipped skipped n ≡ true → after ≡ listed ++ n ∷ [] →
    after ≡ filter (is_skipped skipped) (range_with_len 0 (n + 1))
listed-skipped skipped listed after n is skips next =
    let one : filter (is_skipped skipped) (n ∷ []) ≡ n ∷ [] = rw skips refl in
    next ∙ ap (λ (xs : List ℕ). xs ++ n ∷ []) is
    ∙ ap (λ (xs : List ℕ). filter (is_skipped skipped) (range_with_len 0 n) ++ xs) (sym one)
    ∙ sym (filter_more (is_skipped skipped) n)

pub listed-free : (skipped listed : List ℕ) (n : ℕ) → listed ≡ filter (is_skipped skipped) (range_with_len 0 n) →
    is_skipped skipped n ≡ false → listed ≡ filter (is_skipped skipped) (range_with_len 0 (n + 1))
listed-free skipped listed n is free =
    let none : filter (is_skipped skipped) (n ∷ []) ≡ [] = rw free refl in
    is ∙ sym (append-none (filter (is_skipped skipped) (range_with_len 0 n)))
    ∙ ap (λ (xs : List ℕ). filter (is_skipped skipped) (range_with_len 0 n) ++ xs) (sym none)
    ∙ sym (filter_more (is_skipped skipped) n)
  where
    append-none : (xs : List ℕ) → xs ++ [] ≡ xs
    append-none [] = refl
    append-none (x ∷ xs) = ap (λ (zs : List ℕ). x ∷ zs) (append-none xs)

-- where nothing was skipped nothing is listed
filter_nothing : (a n : ℕ) → filter (is_skipped []) (range_with_len a n) ≡ []
filter_nothing a zero = refl
filter_nothing a (suc n) = filter_nothing (a + 1) n

pub listed-nothing : (skipped : List ℕ) (n : ℕ) → skipped ≡ [] → [] ≡ filter (is_skipped skipped) (range_with_len 0 n)
listed-nothing skipped n none = rw none (sym (filter_nothing 0 n))
