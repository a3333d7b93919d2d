-- A plan is made position by position.
use Rattle.std.proofs.Common.{◌≡◌, ℕ, zero, suc, ◌+◌, List, [], ◌∷◌, ◌++◌, Option, Some, None, ap, ◌∙◌, arith}
use Rattle.std.specs.List.{cons_option, filter_map, range_with_len}

-- what is made of one item more at the front
cons-more : (o : Option ℕ) (xs ys zs : List ℕ) → xs ≡ ys ++ zs → cons_option o xs ≡ cons_option o ys ++ zs
cons-more None xs ys zs is = is
cons-more (Some x) xs ys zs is = ap (λ (l : List ℕ). x ∷ l) is

-- and of one number more at the end
made-last : (pick : ℕ → Option ℕ) (a n j : ℕ) → a + n ≡ j →
    filter_map pick (range_with_len a (suc n)) ≡ filter_map pick (range_with_len a n) ++ cons_option (pick j) []
made-last pick a zero j is =
    let here : a ≡ j = omega (arith, is) in ap (λ (k : ℕ). cons_option (pick k) []) here
made-last pick a (suc n) j is =
    cons-more (pick a) (filter_map pick (range_with_len (a + 1) (suc n))) (filter_map pick (range_with_len (a + 1) n))
    (cons_option (pick j) []) (made-last pick (a + 1) n j (omega (arith, is)))

pub plan-more : (pick : ℕ → Option ℕ) (n : ℕ) →
    filter_map pick (range_with_len 1 (n + 1)) ≡ filter_map pick (range_with_len 1 n) ++ cons_option (pick (n + 1)) []
plan-more pick n =
    let on : n + 1 ≡ suc n = omega arith in
    ap (λ (k : ℕ). filter_map pick (range_with_len 1 k)) on ∙ made-last pick 1 n (n + 1) (omega arith)
