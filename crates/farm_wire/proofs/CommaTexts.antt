-- Numbers that are written behind commas, from the last to the first.
use Rattle.std.proofs.Common.{◌≡◌, ℕ, suc, ◌+◌, ◌-◌, ◌<◌, ◌≤◌, ◌^◌, List, [], ◌∷◌, ◌++◌, length, get_or, drop, set}
use Rattle.std.proofs.Common.{codes, decimal, refl, sym, ap, ◌∙◌, arith, add-one, append_assoc, append-nil, drop-cons}
use Rattle.std.proofs.lemmas.Fmt.{IsAscii-decimal, length-decimal-le}
use Rattle.std.proofs.lemmas.List.{drop-set, drop_all, drop_more}
use Rattle.std.proofs.lemmas.Str.{IsUtf8-append, IsUtf8-from_ascii, IsUtf8-nil}
use Rattle.std.proofs.lemmas.Str.Ascii.{IsAscii-cons}
use Rattle.std.specs.Str.{IsUtf8}
use Rattle.farm_wire.specs.Pieces.{behind_commas, numbers_piece}
use Rattle.farm_wire.proofs.Written.{goes_on}

-- a number of 32 bits has at most ten digits
pub short-decimal : (n : ℕ) → n < 2 ^ 32 → length (decimal n) ≤ 10
short-decimal n fits = length-decimal-le 10 n (omega arith) (omega (arith, fits)) (omega (arith, fits))

-- one number more is written, before the others
pub written-next : (room digits numbers : List ℕ) (end start k : ℕ) → k < length numbers → 1 ≤ start
    → start ≤ length digits → drop start digits ≡ decimal (get_or numbers k 0) ++ drop end room
    → drop end room ≡ behind_commas (drop (k + 1) numbers)
    → drop (start - 1) (set digits (start - 1) 44) ≡ behind_commas (drop k numbers)
written-next room digits numbers end start k within some fits put rest =
    let back : start - 1 + 1 ≡ start = omega (arith, some) in
    drop-set digits (start - 1) 44 (omega (arith, some, fits))
    ∙ ap (λ s. 44 ∷ drop s digits) back
    ∙ ap (λ text. 44 ∷ text) put
    ∙ ap (λ text. 44 ∷ (decimal (get_or numbers k 0) ++ text)) rest
    ∙ ap behind_commas (sym (drop_more numbers k 0 within))

-- an array goes on with a chunk, and then with what is left
goes_on-append : (chunk more : List ℕ) → goes_on (chunk ++ more) ≡ behind_commas chunk ++ goes_on more
goes_on-append [] more = refl
goes_on-append (n ∷ chunk) more =
    ap (λ text. 44 ∷ (decimal n ++ text)) (goes_on-append chunk more)
    ∙ ap (λ text. 44 ∷ text) (sym (append_assoc (decimal n) (behind_commas chunk) (goes_on more)))

pub chunk-next : (old new left chunk more : List ℕ) → left ≡ chunk ++ more → new ≡ old ++ behind_commas chunk
    → new ++ goes_on more ≡ old ++ goes_on left
chunk-next old new left chunk more is put =
    ap (λ text. text ++ goes_on more) put
    ∙ append_assoc old (behind_commas chunk) (goes_on more)
    ∙ ap (λ text. old ++ text) (sym (goes_on-append chunk more))
    ∙ ap (λ numbers. old ++ goes_on numbers) (sym is)

-- Numbers that are written one after the other, each behind a comma.

-- one more is written
pub number-next : (old new numbers : List ℕ) (i d : ℕ) → i < length numbers
    → new ≡ old ++ (codes "," ++ decimal (get_or numbers i d))
    → new ++ goes_on (drop (i + 1) numbers) ≡ old ++ goes_on (drop i numbers)
number-next old new numbers i d within put =
    let n = get_or numbers i d in
    let cons : drop i numbers ≡ n ∷ drop (i + 1) numbers = rw (add-one, drop-cons numbers i d) refl in
    ap (λ text. text ++ goes_on (drop (i + 1) numbers)) put
    ∙ append_assoc old (codes "," ++ decimal n) (goes_on (drop (i + 1) numbers))
    ∙ ap (λ rest. old ++ goes_on rest) (sym cons)

-- all are written
pub numbers-all : (start old new numbers : List ℕ) (i : ℕ) → length numbers ≤ i
    → old ++ goes_on (drop i numbers) ≡ start ++ goes_on numbers → new ≡ old ++ codes "]"
    → new ≡ start ++ goes_on numbers
numbers-all start old new numbers i ended before put =
    put ∙ ap (λ rest. old ++ goes_on rest) (sym (drop_all i numbers ended)) ∙ before

-- an array behind a piece, by its first number and the others
pub numbers-some : (old named begun new piece numbers more : List ℕ) (first : ℕ) → numbers ≡ first ∷ more
    → named ≡ old ++ piece → begun ≡ named ++ (codes "[" ++ decimal first) → new ≡ begun ++ goes_on more
    → new ≡ old ++ numbers_piece piece numbers
numbers-some old named begun new piece numbers more first is name begin put =
    put
    ∙ ap (λ text. text ++ goes_on more) (begin ∙ ap (λ text. text ++ (codes "[" ++ decimal first)) name)
    ∙ append_assoc (old ++ piece) (codes "[" ++ decimal first) (goes_on more)
    ∙ append_assoc old piece ((codes "[" ++ decimal first) ++ goes_on more)
    ∙ ap (λ ns. old ++ numbers_piece piece ns) (sym is)

-- and none, where there is no number
pub numbers-none : (old piece numbers : List ℕ) → numbers ≡ [] → old ≡ old ++ numbers_piece piece numbers
numbers-none old piece numbers none = sym (append-nil old) ∙ ap (λ ns. old ++ numbers_piece piece ns) (sym none)

-- numbers behind commas are a text
pub IsUtf8-behind_commas : (numbers : List ℕ) → ((i : ℕ) → get_or numbers i 0 < 2 ^ 32) → IsUtf8 (behind_commas numbers)
IsUtf8-behind_commas [] fit = IsUtf8-nil
IsUtf8-behind_commas (n ∷ numbers) fit =
    let small : n < 2 ^ 64 = omega (arith, fit 0) in
    IsUtf8-append (44 ∷ decimal n) (behind_commas numbers)
    (IsUtf8-from_ascii (44 ∷ decimal n) (IsAscii-cons 44 (decimal n) (omega arith) (IsAscii-decimal n small)))
    (IsUtf8-behind_commas numbers (λ i. fit (suc i)))
