-- What is held of a line.
use Rattle.std.proofs.Common.{◌≡◌, ◌≤◌, ◌+◌, ◌-◌, ℕ, zero, suc, List, [], ◌∷◌, ◌++◌, length, take, min, refl, sym, ap}
use Rattle.std.proofs.Common.{◌∙◌, arith}
use Rattle.std.proofs.Math.Seq.{take-append-add}
use Rattle.std.proofs.lemmas.List.{append-nil, take_min}
use Rattle.farm_script.specs.Held.{held}
use Rattle.farm_wire.specs.declared.limits.TheConstants.{MAX_COMMAND_BYTES}

-- a prefix of a prefix and more is that of all
take-append-take : (n : ℕ) (xs ys : List ℕ) → take n (take n xs ++ ys) ≡ take n (xs ++ ys)
take-append-take zero xs ys = refl
take-append-take (suc n) [] ys = refl
take-append-take (suc n) (x ∷ xs) ys = ap (λ l. x ∷ l) (take-append-take n xs ys)

-- holding what is held of a line, and then more, is holding the line with more
pub held-append : (line more : List ℕ) → held (held line ++ more) ≡ held (line ++ more)
unfolding held
held-append line more = take-append-take (MAX_COMMAND_BYTES + 1) line more

-- lines that are held alike are so with more bytes
pub held-append-same : (line other more : List ℕ) → held line ≡ held other → held (line ++ more) ≡ held (other ++ more)
held-append-same line other more same =
    sym (held-append line more) ∙ ap (λ l. held (l ++ more)) same ∙ held-append other more

pub held-nil : held [] ≡ []
unfolding held
held-nil = refl

-- a line of which something is held isn't empty
pub held-cons : (b : ℕ) (bs : List ℕ) → held (b ∷ bs) ≡ b ∷ take MAX_COMMAND_BYTES bs
unfolding held
held-cons b bs = refl

-- more is held as far as there is room
pub held-room : (line more : List ℕ) → length line ≤ (MAX_COMMAND_BYTES + 1)
    → line ++ take (min ((MAX_COMMAND_BYTES + 1) - length line) (length more)) more ≡ held (line ++ more)
unfolding held
held-room line more within =
    let room = (MAX_COMMAND_BYTES + 1) - length line in
    let all : length line + room ≡ (MAX_COMMAND_BYTES + 1) = omega arith in
    ap (λ l. line ++ l) (take_min room more)
    ∙ (sym (take-append-add line more room) ∙ ap (λ n. take n (line ++ more)) all)

pub held-held : (line : List ℕ) → held (held line) ≡ held line
held-held line = ap held (sym (append-nil (held line))) ∙ held-append line [] ∙ ap held (append-nil line)
