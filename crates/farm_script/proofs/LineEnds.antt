-- Where lines end.
use Rattle.std.proofs.Common.{◌≡◌, ◌≢◌, ℕ, zero, suc, ◌+◌, ◌-◌, ◌<◌, cond, List, [], ◌∷◌, ◌++◌, length, get_or, take}
use Rattle.std.proofs.Common.{drop, sym, ap, ◌∙◌, ⊎_elim, arith, append_assoc, add-one, refl}
use Rattle.std.proofs.lemmas.List.{append-nil, take_rest}
use Rattle.std.proofs.lemmas.Bool.{cases_eq, eq-eqb, ne_eqb}
use Rattle.farm_script.specs.Lines.{ended_after, rest_after}

-- a line feed ends the line
pub ended_after-feed : (line : List ℕ) (b : ℕ) (bs : List ℕ) → b ≡ 10
    → ended_after line (b ∷ bs) ≡ line ∷ ended_after [] bs
ended_after-feed line b bs feed =
    ap (λ t. cond t (line ∷ ended_after [] bs) (ended_after (line ++ b ∷ []) bs)) (eq-eqb b 10 feed)

pub rest_after-feed : (line : List ℕ) (b : ℕ) (bs : List ℕ) → b ≡ 10 → rest_after line (b ∷ bs) ≡ rest_after [] bs
rest_after-feed line b bs feed =
    ap (λ t. cond t (rest_after [] bs) (rest_after (line ++ b ∷ []) bs)) (eq-eqb b 10 feed)

-- any other byte belongs to it
pub ended_after-other : (line : List ℕ) (b : ℕ) (bs : List ℕ) → b ≢ 10
    → ended_after line (b ∷ bs) ≡ ended_after (line ++ b ∷ []) bs
ended_after-other line b bs other =
    ap (λ t. cond t (line ∷ ended_after [] bs) (ended_after (line ++ b ∷ []) bs)) (ne_eqb b 10 other)

pub rest_after-other : (line : List ℕ) (b : ℕ) (bs : List ℕ) → b ≢ 10
    → rest_after line (b ∷ bs) ≡ rest_after (line ++ b ∷ []) bs
rest_after-other line b bs other =
    ap (λ t. cond t (rest_after [] bs) (rest_after (line ++ b ∷ []) bs)) (ne_eqb b 10 other)

-- the first line ends at the first line feed
pub ended_after-at : (line xs : List ℕ) (i : ℕ) → i < length xs → get_or xs i 0 ≡ 10
    → ((k : ℕ) → k < i → get_or xs k 0 ≢ 10)
    → ended_after line xs ≡ (line ++ take i xs) ∷ ended_after [] (drop (suc i) xs)
ended_after-at line [] i inside here before = absurd (omega arith)
ended_after-at line (b ∷ bs) zero inside here before =
    ended_after-feed line b bs here ∙ ap (λ l. l ∷ ended_after [] bs) (sym (append-nil line))
ended_after-at line (b ∷ bs) (suc i) inside here before =
    ended_after-other line b bs (before 0 (omega arith))
    ∙ ended_after-at (line ++ b ∷ []) bs i (omega arith) here (λ k below. before (suc k) (omega arith))
    ∙ ap (λ l. l ∷ ended_after [] (drop (suc i) bs)) (append_assoc line (b ∷ []) (take i bs))

-- what was read of the next line is what was read of it after the first line feed
pub rest_after-at : (line xs : List ℕ) (i : ℕ) → i < length xs → get_or xs i 0 ≡ 10
    → ((k : ℕ) → k < i → get_or xs k 0 ≢ 10) → rest_after line xs ≡ rest_after [] (drop (suc i) xs)
rest_after-at line [] i inside here before = absurd (omega arith)
rest_after-at line (b ∷ bs) zero inside here before = rest_after-feed line b bs here
rest_after-at line (b ∷ bs) (suc i) inside here before =
    rest_after-other line b bs (before 0 (omega arith))
    ∙ rest_after-at (line ++ b ∷ []) bs i (omega arith) here (λ k below. before (suc k) (omega arith))

-- without a line feed no line ends
pub ended_after-none : (line xs : List ℕ) → ((k : ℕ) → k < length xs → get_or xs k 0 ≢ 10) → ended_after line xs ≡ []
ended_after-none line [] none = refl
ended_after-none line (b ∷ bs) none =
    ended_after-other line b bs (none 0 (omega arith))
    ∙ ended_after-none (line ++ b ∷ []) bs (λ k below. none (suc k) (omega arith))

-- without a line feed all belongs to the line
pub rest_after-none : (line xs : List ℕ) → ((k : ℕ) → k < length xs → get_or xs k 0 ≢ 10)
    → rest_after line xs ≡ line ++ xs
rest_after-none line [] none = sym (append-nil line)
rest_after-none line (b ∷ bs) none =
    rest_after-other line b bs (none 0 (omega arith))
    ∙ rest_after-none (line ++ b ∷ []) bs (λ k below. none (suc k) (omega arith))
    ∙ append_assoc line (b ∷ []) bs

-- what `&bytes[i + 1..]` holds
pub after_feed : (xs : List ℕ) (i : ℕ) → take (length xs - (i + 1)) (drop (i + 1) xs) ≡ drop (suc i) xs
after_feed xs i = take_rest xs (i + 1) ∙ ap (λ n. drop n xs) (add-one i)

-- the lines that end in two pieces are those that end in the one, and then those that end in the other
pub ended_after-append : (line some more : List ℕ)
    → ended_after line (some ++ more) ≡ ended_after line some ++ ended_after (rest_after line some) more
ended_after-append line [] more = refl
ended_after-append line (b ∷ bs) more = ⊎_elim
    (λ feed.
    ended_after-feed line b (bs ++ more) feed
    ∙ ap (λ ls. line ∷ ls) (ended_after-append [] bs more)
    ∙ ap (λ ls. ls ++ ended_after (rest_after [] bs) more) (sym (ended_after-feed line b bs feed))
    ∙ ap (λ rest. ended_after line (b ∷ bs) ++ ended_after rest more) (sym (rest_after-feed line b bs feed)))
    (λ other.
    ended_after-other line b (bs ++ more) other
    ∙ ended_after-append (line ++ b ∷ []) bs more
    ∙ ap (λ ls. ls ++ ended_after (rest_after (line ++ b ∷ []) bs) more) (sym (ended_after-other line b bs other))
    ∙ ap (λ rest. ended_after line (b ∷ bs) ++ ended_after rest more) (sym (rest_after-other line b bs other)))
    (cases_eq b 10)

pub rest_after-append : (line some more : List ℕ)
    → rest_after line (some ++ more) ≡ rest_after (rest_after line some) more
rest_after-append line [] more = refl
rest_after-append line (b ∷ bs) more = ⊎_elim
    (λ feed.
    rest_after-feed line b (bs ++ more) feed
    ∙ rest_after-append [] bs more
    ∙ ap (λ rest. rest_after rest more) (sym (rest_after-feed line b bs feed)))
    (λ other.
    rest_after-other line b (bs ++ more) other
    ∙ rest_after-append (line ++ b ∷ []) bs more
    ∙ ap (λ rest. rest_after rest more) (sym (rest_after-other line b bs other)))
    (cases_eq b 10)
