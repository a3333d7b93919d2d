-- Where the first line of a text ends.
use Rattle.std.proofs.Common.{◌≡◌, ◌≢◌, ℕ, zero, suc, ◌+◌, ◌-◌, ◌<◌, cond, List, [], ◌∷◌, ◌++◌, length, get_or, take, drop, sym, ap, ◌∙◌, arith, append_assoc, add-one}
use Rattle.std.proofs.lemmas.List.{append-nil, take_rest, drop_all, length_push}
use Rattle.std.proofs.lemmas.Bool.{eq-eqb, ne_eqb}
use Rattle.test_runners.specs.Lines.{lines_after, lines}

-- what `&s[i + 1..]` holds
rest_after : (xs : List ℕ) (i : ℕ) → take (length xs - (i + 1)) (drop (i + 1) xs) ≡ drop (suc i) xs
rest_after xs i = take_rest xs (i + 1) ∙ ap (λ n. drop n xs) (add-one i)

-- the first line ends at the first line feed
lines_after_at : (line xs : List ℕ) (i : ℕ) → i < length xs → get_or xs i 0 ≡ 10
    → ((k : ℕ) → k < i → get_or xs k 0 ≢ 10) → lines_after line xs ≡ (line ++ take i xs) ∷ lines (drop (suc i) xs)
lines_after_at line [] i inside here before = absurd (omega arith)
lines_after_at line (b ∷ bs) zero inside here before =
    ap (λ t. cond t (line ∷ lines bs) (lines_after (line ++ b ∷ []) bs)) (eq-eqb b 10 here)
    ∙ ap (λ p. p ∷ lines bs) (sym (append-nil line))
lines_after_at line (b ∷ bs) (suc i) inside here before =
    ap (λ t. cond t (line ∷ lines bs) (lines_after (line ++ b ∷ []) bs)) (ne_eqb b 10 (before 0 (omega arith)))
    ∙ lines_after_at (line ++ b ∷ []) bs i (omega arith) here (λ k below. before (suc k) (omega arith))
    ∙ ap (λ p. p ∷ lines (drop (suc i) bs)) (append_assoc line (b ∷ []) (take i bs))

-- without a line feed a text that is not empty is one line
lines_after_whole : (line xs : List ℕ) → 0 < length line + length xs → ((k : ℕ) → k < length xs → get_or xs k 0 ≢ 10)
    → lines_after line xs ≡ (line ++ xs) ∷ []
lines_after_whole [] [] some none = absurd (omega arith)
lines_after_whole (c ∷ line) [] some none = ap (λ p. p ∷ []) (sym (append-nil (c ∷ line)))
lines_after_whole line (b ∷ bs) some none =
    ap (λ t. cond t (line ∷ lines bs) (lines_after (line ++ b ∷ []) bs)) (ne_eqb b 10 (none 0 (omega arith)))
    ∙ lines_after_whole (line ++ b ∷ []) bs (omega (arith, length_push line b)) (λ k below. none (suc k) (omega arith))
    ∙ ap (λ p. p ∷ []) (append_assoc line (b ∷ []) bs)

pub lines_at : (xs : List ℕ) (i : ℕ) → i < length xs → get_or xs i 0 ≡ 10 → ((k : ℕ) → k < i → get_or xs k 0 ≢ 10)
    → lines xs ≡ take i xs ∷ lines (take (length xs - (i + 1)) (drop (i + 1) xs))
lines_at xs i inside here before =
    lines_after_at [] xs i inside here before ∙ ap (λ rest. take i xs ∷ lines rest) (sym (rest_after xs i))

pub lines_whole : (xs : List ℕ) → 0 < length xs → ((k : ℕ) → k < length xs → get_or xs k 0 ≢ 10)
    → lines xs ≡ xs ∷ lines (take (length xs - length xs) (drop (length xs) xs))
lines_whole xs some none =
    lines_after_whole [] xs (omega arith) none
    ∙ ap (λ rest. xs ∷ lines rest) (sym (take_rest xs (length xs) ∙ drop_all (length xs) xs (omega arith)))
