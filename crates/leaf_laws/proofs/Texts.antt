-- Texts that are sent: they are UTF-8, and their length is bounded.
use Rattle.std.proofs.Common.{◌≡◌, ◌+◌, ◌*◌, ◌≤◌, ℕ, Bool, true, false, cond, List, [], ◌∷◌, length, codes, refl, arith}
use Rattle.std.proofs.Common.{nat_lt, length-append}
use Rattle.std.specs.List.{AllPass}
use Rattle.std.specs.Str.{IsUtf8}
use Rattle.std.proofs.lemmas.Bool.{and_from}
use Rattle.std.proofs.lemmas.Bool.Decides.{nat_tests}
use Rattle.std.proofs.lemmas.List.Elements.{All-head, All-tail}
use Rattle.farm_types.specs.Limits.{IsName, is_printable}
use Rattle.farm_types.specs.declared.stage.Stage.{Stage}
use Rattle.farm_types.specs.declared.stage.Stage.TheVariants as stage
use Rattle.farm_wire.specs.Replies.{stage_word}
use Rattle.json.proofs.Printed.Utf8.{IsUtf8-are_ascii, are_ascii}
use Rattle.json.specs.Print.{escape, escape_byte, escape_letter, quoted}

printable-ascii : (b : ℕ) → is_printable b ≡ true → nat_lt b 128 ≡ true
printable-ascii b is = grind (arith, nat_tests)

name-ascii : (text : List ℕ) → AllPass is_printable text → are_ascii text ≡ true
name-ascii [] are = refl
name-ascii (b ∷ text) are =
    and_from _ _ (printable-ascii b (All-head (λ c. is_printable c ≡ true) b text are))
    (name-ascii text (All-tail (λ c. is_printable c ≡ true) b text are))

-- a name is UTF-8
pub IsUtf8-name : (text : List ℕ) → IsName text → IsUtf8 text
IsUtf8-name text is = IsUtf8-are_ascii text (name-ascii text is.printable)

pub IsUtf8-stage_word : (s : Stage) → IsUtf8 (stage_word s)
IsUtf8-stage_word stage.Search = IsUtf8-are_ascii (codes "search") refl
IsUtf8-stage_word stage.Verify = IsUtf8-are_ascii (codes "verify") refl

-- ---- how long a text is between quotes

chosen-short : (short control : Bool) (a c : ℕ) (h l : ℕ) (x : ℕ)
    → length (cond short (92 ∷ a ∷ []) (cond control (92 ∷ 117 ∷ 48 ∷ 48 ∷ h ∷ l ∷ []) (x ∷ []))) ≤ 6
chosen-short true control a c h l x = omega arith
chosen-short false true a c h l x = omega arith
chosen-short false false a c h l x = omega arith

escape_byte-short : (x : ℕ) → length (escape_byte x) ≤ 6
unfolding escape_byte
escape_byte-short x = chosen-short (nat_lt 0 (escape_letter x)) (nat_lt x 32) (escape_letter x) 0 _ _ x

escape-short : (text : List ℕ) → length (escape text) ≤ 6 * length text
escape-short [] = omega arith
escape-short (x ∷ text) =
    omega (arith, escape_byte-short x, escape-short text, length-append (escape_byte x) (escape text))

-- a text between quotes is at most six times as long, and its quotes
pub quoted-short : (text : List ℕ) → length (quoted text) ≤ 6 * length text + 2
quoted-short text = omega (arith, escape-short text, length-append (escape text) (34 ∷ []))
