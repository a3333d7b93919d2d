-- Lines of words, of which some are numbers: they are read as what was written.
use Rattle.std.proofs.Common.{◌≡◌, ◌≢◌, ◌^◌, ◌<◌, ◌≤◌, ℕ, Bool, true, not, ◌==◌, List, ◌∷◌, map, Option, Some, refl, ap, ◌∙◌, arith, []}
use Rattle.std.specs.Fmt.{decimal}
use Rattle.std.specs.List.{All, join_with_byte, list_all}
use Rattle.std.proofs.lemmas.Bool.{and_parts}
use Rattle.std.proofs.lemmas.Bool.Decides.{nat_tests}
use Rattle.std.proofs.lemmas.Fmt.{digits_decimal}
use Rattle.std.proofs.lemmas.List.{get_or_default}
use Rattle.std.proofs.lemmas.List.Elements.{All-append, All-cons, All-head, All-map, All-nil, All-tail}
use Rattle.std.proofs.lemmas.Str.Parse.{numerals_by_value, tells_by_index}
use Rattle.judge.proofs.RoundTrips.{IsFreeOf, number-decimal}
use Rattle.judge.specs.Text.{numbers, with_first}

-- a word of a line: no space and no line feed stands in it
pub record IsWord (word : List ℕ) : Type 0 where
  pub no_space : IsFreeOf 32 word
  pub no_feed : IsFreeOf 10 word

abbrev pub is_other : ℕ → ℕ → Bool
is_other mark b = not (b == mark)

other-byte : (mark b : ℕ) → is_other mark b ≡ true → b ≢ mark
other-byte mark b is same = grind (arith, nat_tests)

-- a text is free of a byte where a test of each of its bytes says so
pub free-tested : (mark : ℕ) (text : List ℕ) → list_all (is_other mark) text ≡ true → IsFreeOf mark text
free-tested mark [] pass = All-nil (λ b. b ≢ mark)
free-tested mark (b ∷ text) pass =
    let parts = and_parts (is_other mark b) (list_all (is_other mark) text) pass in
    All-cons (λ b. b ≢ mark) b text (other-byte mark b parts.0) (free-tested mark text parts.1)

-- a word as its bytes test
pub word-tested : (word : List ℕ) → list_all (is_other 32) word ≡ true → list_all (is_other 10) word ≡ true →
    IsWord word
word-tested word space feed = record { no_space = free-tested 32 word space; no_feed = free-tested 10 word feed }

below-digits : (mark a b : ℕ) → mark < 48 → a ≡ b → 48 ≤ b → a ≢ mark
below-digits mark a b low same digit is = omega arith

-- the digits of a number are none of the bytes below the digits
pub decimal-free : (mark n : ℕ) → mark < 48 → n < 2 ^ 64 → IsFreeOf mark (decimal n)
decimal-free mark n low small k d within =
    let at = digits_decimal (numerals_by_value _ tells_by_index) n small k within in
    below-digits mark _ _ low (get_or_default (decimal n) k d 0 within) at.0

pub decimal-word : (n : ℕ) → n < 2 ^ 64 → IsWord (decimal n)
decimal-word n small = record {
  no_space = decimal-free 32 n (omega arith) small;
  no_feed = decimal-free 10 n (omega arith) small;
}

pub decimals-words : (ns : List ℕ) → All (λ n. n < 2 ^ 64) ns → All IsWord (map decimal ns)
decimals-words ns small = All-map IsWord decimal ns (λ k d within. decimal-word _ (small k d within))

-- words that are joined by one other byte
pub join-free : (mark c : ℕ) (all : List (List ℕ)) → c ≢ mark → All (IsFreeOf mark) all →
    IsFreeOf mark (join_with_byte c all)
join-free mark c [] other free = All-nil (λ b. b ≢ mark)
join-free mark c (word ∷ []) other free = All-head (IsFreeOf mark) word [] free
join-free mark c (word ∷ next ∷ all) other free =
    All-append (λ b. b ≢ mark) word (c ∷ join_with_byte c (next ∷ all))
    (All-head (IsFreeOf mark) word (next ∷ all) free)
    (All-cons (λ b. b ≢ mark) c (join_with_byte c (next ∷ all)) other
    (join-free mark c (next ∷ all) other (All-tail (IsFreeOf mark) word (next ∷ all) free)))

-- the numbers of a list of words that were written of numbers
pub numbers-decimals : (ns : List ℕ) → All (λ n. n < 2 ^ 64) ns → numbers (map decimal ns) ≡ Some ns
numbers-decimals [] small = refl
numbers-decimals (n ∷ ns) small =
    ap (λ (o : Option ℕ). with_first o (numbers (map decimal ns)))
    (number-decimal n (All-head (λ m. m < 2 ^ 64) n ns small))
    ∙ ap (λ (o : Option (List ℕ)). with_first (Some n) o) (numbers-decimals ns (All-tail (λ m. m < 2 ^ 64) n ns small))
