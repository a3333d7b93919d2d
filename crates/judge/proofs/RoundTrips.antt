-- What is written as lines, words and numbers is read as them.
use Rattle.std.proofs.Common.{◌≡◌, ◌≢◌, ℕ, zero, suc, ◌+◌, ◌^◌, ◌<◌, Bool, true, false, not, ◌&&◌, ◌||◌, cond, eqb, List, [], ◌∷◌, ◌++◌, length, get_or, Some, None, inl, inr, refl, sym, ap, ◌∙◌, arith, append_assoc}
use Rattle.std.specs.Fmt.{decimal}
use Rattle.std.specs.List.{All, join_with_byte}
use Rattle.std.specs.Str.{all_ascii_digits}
use Rattle.std.specs.Str.Parse.{digits_value}
use Rattle.std.proofs.lemmas.Bool.{ne_eqb, eq-eqb, eqb-true, eqb-false, and_from, and_parts, or_cases, not-true}
use Rattle.std.proofs.lemmas.Fmt.{decimal-digits_value, digits_decimal, digits_value-decimal, decimal_nonempty, first_decimal, decimal_digit}
use Rattle.std.proofs.lemmas.List.{append-nil, length_push}
use Rattle.std.proofs.lemmas.List.Elements.{All-head}
use Rattle.std.proofs.lemmas.Str.Parse.{IsNumeralModel, numerals_by_value, tells_all_ascii_digits}
use Rattle.common_types.specs.Decimals.{number}
use Rattle.judge.specs.Text.{pieces_after, words, lines_after, lines, text_of}

-- no byte of a text is this one
abbrev pub IsFreeOf : ℕ → List ℕ → Type 0
IsFreeOf mark text = All (λ (b : ℕ). b ≢ mark) text

IsFreeOf-head : (mark b : ℕ) (bs : List ℕ) → IsFreeOf mark (b ∷ bs) → b ≢ mark
IsFreeOf-head mark b bs free = All-head (λ (x : ℕ). x ≢ mark) b bs free

IsFreeOf-tail : (mark b : ℕ) (bs : List ℕ) → IsFreeOf mark (b ∷ bs) → IsFreeOf mark bs
IsFreeOf-tail mark b bs free = λ k d below. free (suc k) d (omega arith)

-- a line that is ended by its line feed
lines_after-line : (read line rest : List ℕ) → IsFreeOf 10 line
    → lines_after read (line ++ 10 ∷ rest) ≡ (read ++ line) ∷ lines rest
lines_after-line read [] rest free = ap (λ x. x ∷ lines rest) (sym (append-nil read))
lines_after-line read (b ∷ line) rest free =
    ap (λ t. cond t (read ∷ lines (line ++ 10 ∷ rest)) (lines_after (read ++ b ∷ []) (line ++ 10 ∷ rest)))
    (ne_eqb b 10 (IsFreeOf-head 10 b line free))
    ∙ lines_after-line (read ++ b ∷ []) line rest (IsFreeOf-tail 10 b line free)
    ∙ ap (λ x. x ∷ lines rest) (append_assoc read (b ∷ []) line)

lines-line : (line rest : List ℕ) → IsFreeOf 10 line → lines (line ++ 10 ∷ rest) ≡ line ∷ lines rest
lines-line line rest free = lines_after-line [] line rest free

-- the last line, without one
lines_after-last : (read line : List ℕ) → 0 < length read + length line → IsFreeOf 10 line
    → lines_after read line ≡ (read ++ line) ∷ []
lines_after-last [] [] some free = absurd (omega arith)
lines_after-last (c ∷ read) [] some free = ap (λ x. x ∷ []) (sym (append-nil (c ∷ read)))
lines_after-last read (b ∷ line) some free =
    ap (λ t. cond t (read ∷ lines line) (lines_after (read ++ b ∷ []) line))
    (ne_eqb b 10 (IsFreeOf-head 10 b line free))
    ∙ lines_after-last (read ++ b ∷ []) line (omega (arith, length_push read b)) (IsFreeOf-tail 10 b line free)
    ∙ ap (λ x. x ∷ []) (append_assoc read (b ∷ []) line)

pub lines-text_of-append : (all : List (List ℕ)) (rest : List ℕ) → All (IsFreeOf 10) all
    → lines (text_of all ++ rest) ≡ all ++ lines rest
lines-text_of-append [] rest free = refl
lines-text_of-append (line ∷ all) rest free =
    ap lines (append_assoc line (10 ∷ text_of all) rest)
    ∙ lines-line line (text_of all ++ rest) (All-head (IsFreeOf 10) line all free)
    ∙ ap (λ x. line ∷ x) (lines-text_of-append all rest (λ k d below. free (suc k) d (omega arith)))

pub lines-text_of : (all : List (List ℕ)) → All (IsFreeOf 10) all → lines (text_of all) ≡ all
lines-text_of all free =
    ap lines (sym (append-nil (text_of all))) ∙ lines-text_of-append all [] free ∙ append-nil all

pub lines-last : (all : List (List ℕ)) (last : List ℕ) → All (IsFreeOf 10) all → IsFreeOf 10 last → 0 < length last
    → lines (text_of all ++ last) ≡ all ++ last ∷ []
lines-last all last free last_free some =
    lines-text_of-append all last free ∙ ap (λ x. all ++ x) (lines_after-last [] last (omega arith) last_free)

-- a word before a space, and the last word
pieces_after-piece : (mark : ℕ) (read piece rest : List ℕ) → IsFreeOf mark piece
    → pieces_after mark read (piece ++ mark ∷ rest) ≡ (read ++ piece) ∷ pieces_after mark [] rest
pieces_after-piece mark read [] rest free =
    ap (λ t. cond t (read ∷ pieces_after mark [] rest) (pieces_after mark (read ++ mark ∷ []) rest))
    (eq-eqb mark mark refl)
    ∙ ap (λ x. x ∷ pieces_after mark [] rest) (sym (append-nil read))
pieces_after-piece mark read (b ∷ piece) rest free =
    ap (λ t. cond t (read ∷ pieces_after mark [] (piece ++ mark ∷ rest))
    (pieces_after mark (read ++ b ∷ []) (piece ++ mark ∷ rest))) (ne_eqb b mark (IsFreeOf-head mark b piece free))
    ∙ pieces_after-piece mark (read ++ b ∷ []) piece rest (IsFreeOf-tail mark b piece free)
    ∙ ap (λ x. x ∷ pieces_after mark [] rest) (append_assoc read (b ∷ []) piece)

pieces_after-last : (mark : ℕ) (read piece : List ℕ) → IsFreeOf mark piece
    → pieces_after mark read piece ≡ (read ++ piece) ∷ []
pieces_after-last mark read [] free = ap (λ x. x ∷ []) (sym (append-nil read))
pieces_after-last mark read (b ∷ piece) free =
    ap (λ t. cond t (read ∷ pieces_after mark [] piece) (pieces_after mark (read ++ b ∷ []) piece))
    (ne_eqb b mark (IsFreeOf-head mark b piece free))
    ∙ pieces_after-last mark (read ++ b ∷ []) piece (IsFreeOf-tail mark b piece free)
    ∙ ap (λ x. x ∷ []) (append_assoc read (b ∷ []) piece)

pub words-join : (all : List (List ℕ)) → 0 < length all → All (IsFreeOf 32) all → words (join_with_byte 32 all) ≡ all
words-join [] some free = absurd (omega arith)
words-join (word ∷ []) some free = pieces_after-last 32 [] word (All-head (IsFreeOf 32) word [] free)
words-join (word ∷ next ∷ all) some free =
    pieces_after-piece 32 [] word (join_with_byte 32 (next ∷ all)) (All-head (IsFreeOf 32) word (next ∷ all) free)
    ∙ ap (λ x. word ∷ x) (words-join (next ∷ all) (omega arith) (λ k d below. free (suc k) d (omega arith)))

numerals : IsNumeralModel (λ ds. all_ascii_digits ds ≡ true) (digits_value 10)
numerals = numerals_by_value (λ ds. all_ascii_digits ds ≡ true) tells_all_ascii_digits

-- digits of which the first is 0 only where it is the one digit
record IsNumeral (ds : List ℕ) : Type 0 where
  some : 0 < length ds
  digits : all_ascii_digits ds ≡ true
  zero_alone : get_or ds 0 0 ≡ 48 → length ds ≡ 1

no_leading_zero : (b n : ℕ) (t : Bool) → eqb b 48 ≡ t → (b ≡ 48 → n ≡ 0) → (not t || eqb n 0) ≡ true
no_leading_zero b n true is alone = eq-eqb n 0 (alone (eqb-true b 48 is))
no_leading_zero b n false is alone = refl

number-IsNumeral : (ds : List ℕ) → IsNumeral ds → number ds ≡ Some (digits_value 10 ds)
number-IsNumeral [] is = absurd (omega (arith, is.some))
number-IsNumeral (b ∷ bs) is =
    ap (λ t. cond t (Some (digits_value 10 (b ∷ bs))) None) (
    and_from _ _ is.digits (no_leading_zero b (length bs) (eqb b 48) refl
    (λ e. let one : suc (length bs) ≡ 1 = is.zero_alone e in omega arith)))

decimal_zero_alone : (n : ℕ) → n < 2 ^ 64 → get_or (decimal n) 0 0 ≡ 48 → length (decimal n) ≡ 1
decimal_zero_alone zero small e = ap length (decimal_digit 0 (omega arith))
decimal_zero_alone (suc n) small e = absurd (omega (arith, first_decimal (suc n) (omega arith) small))

pub number-decimal : (n : ℕ) → n < 2 ^ 64 → number (decimal n) ≡ Some n
number-decimal n small =
    number-IsNumeral (decimal n) (record {
      some = decimal_nonempty n small;
      digits =
          digits_decimal numerals n small;
      zero_alone = decimal_zero_alone n small;
    })
    ∙ ap Some (digits_value-decimal numerals n small)

leading_zero_alone : (b n : ℕ) → (not (eqb b 48) || eqb n 0) ≡ true → b ≡ 48 → n ≡ 0
leading_zero_alone b n holds is =
    elim (or_cases (not (eqb b 48)) (eqb n 0) holds) [
      | inl other ↦ absurd (eqb-false b 48 (not-true (eqb b 48) other) is)
      | inr none ↦ eqb-true n 0 none
    ]

numeral_by_test : (b : ℕ) (bs : List ℕ) (n : ℕ) (t : Bool) →
    (all_ascii_digits (b ∷ bs) && (not (eqb b 48) || eqb (length bs) 0)) ≡ t
    → cond t (Some (digits_value 10 (b ∷ bs))) None ≡ Some n → IsNumeral (b ∷ bs) × (digits_value 10 (b ∷ bs) ≡ n)
numeral_by_test b bs n false is e = absurd cc
numeral_by_test b bs n true is e =
    let parts = and_parts _ _ is in (
      record {
        some = omega arith;
        digits = parts.0;
        zero_alone = λ zero. ap suc
            (leading_zero_alone b (length bs) parts.1 zero);
      },
      cc,
    )

numeral_of_number : (word : List ℕ) (n : ℕ) → number word ≡ Some n → IsNumeral word × (digits_value 10 word ≡ n)
numeral_of_number [] n e = absurd cc
numeral_of_number (b ∷ bs) n e = numeral_by_test b bs n _ refl e

pub decimal-number : (word : List ℕ) (n : ℕ) → n < 2 ^ 64 → number word ≡ Some n → word ≡ decimal n
decimal-number word n small e =
    let is = numeral_of_number word n e in
    let fits : digits_value 10 word < 2 ^ 64 = omega (arith, is.1) in
    sym (ap decimal (sym is.1) ∙ decimal-digits_value numerals word is.0.digits is.0.some is.0.zero_alone fits)
