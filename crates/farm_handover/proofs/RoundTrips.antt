-- What is written of orders is read as them.
use Rattle.std.proofs.Common.{◌≡◌, ◌≢◌, ℕ, zero, suc, ◌+◌, ◌<◌, ◌≤◌, ◌^◌, nat_le, nat_lt, Bool, true, false, not, true≢false, List, [], ◌∷◌, ◌++◌, length, get_or, map, Option, Some, None, Result, Ok, Err, refl, sym, ap, ap₂, subst, ◌∙◌, ⊎_elim, arith, append-nil, append_assoc, length-append, All, AllPairs}
use Rattle.std.specs.Prelude.{codes, if◌then◌else◌}
use Rattle.std.specs.Fmt.{decimal}
use Rattle.std.specs.List.{AllPass, list_all}
use Rattle.std.specs.Str.{bytes_eq}
use Rattle.std.proofs.lemmas.Bool.{and_from, and_parts, cases_Bool, eq-eqb, le-leb, lt-ltb, ltb-true}
use Rattle.std.proofs.lemmas.Fmt.{digits_decimal}
use Rattle.std.proofs.lemmas.List.{get_or_append_left, get_or_default}
use Rattle.std.proofs.lemmas.List.Elements.{All-append, All-cons, All-nil}
use Rattle.std.proofs.lemmas.List.Folds.{list_any_none}
use Rattle.std.proofs.lemmas.Str.Parse.{numerals_by_value, tells_by_index}
use Rattle.std.proofs.Math.Seq.{get_or-append_seam}
use Rattle.common_types.specs.Decimals.{number}
use Rattle.hex.specs.Hex.{is_hex_digit}
use Rattle.farm_entry.specs.Closing.{CanBeCarried}
use Rattle.farm_entry.specs.declared.limits.TheConstants.{MAX_CARRIED}
use Rattle.farm_rules.specs.Orders.{Ordered, has_order}
use Rattle.farm_types.proofs.IdTexts.{digits-from_no_fault, id_digits-back}
use Rattle.farm_types.proofs.SameValues.{same_id-Decides}
use Rattle.farm_types.specs.CommitId.{id_digits, same_id}
use Rattle.farm_types.specs.declared.commit_id.CommitId.{CommitId}
use Rattle.farm_types.specs.declared.moment.TheConstants.{LAST_DAY}
use Rattle.farm_wire.specs.Made.{id_named}
use Rattle.judge.proofs.RoundTrips.{IsFreeOf, lines-text_of, number-decimal, words-join}
use Rattle.judge.specs.Text.{lines, text_of, words}
use Rattle.farm_handover.specs.Handover.{at_end, closes, closing_line, counts, handed_over, handover_lines, is_further, order_in_line, order_line, order_of, order_words, orders_from}
use Rattle.farm_handover.proofs.Ids.{id_named-digits}
use Rattle.farm_handover.proofs.Remaining.{orders_from-last, orders_from-more}

-- Bytes that don't stand in a text.

-- a digit of an id is no byte that is no such digit
hex-other : (mark b : ℕ) → is_hex_digit mark ≡ false → is_hex_digit b ≡ true → b ≢ mark
hex-other mark b other is same = true≢false (sym is ∙ ap is_hex_digit same ∙ other)

id_digits-free : (mark : ℕ) (id : CommitId) → is_hex_digit mark ≡ false → IsFreeOf mark (id_digits id)
id_digits-free mark id other k d within =
    let digits : AllPass is_hex_digit (id_digits id) = (digits-from_no_fault (id_digits id) (id_digits-back id).0).1 in
    hex-other mark (get_or (id_digits id) k d) other (digits k d within)

below-digits : (mark a b : ℕ) → mark < 48 → a ≡ b → 48 ≤ b → a ≢ mark
below-digits mark a b low same digit is = omega arith

-- the digits of a number are none of the bytes below the digits
decimal-free : (mark n : ℕ) → mark < 48 → n < 2 ^ 64 → IsFreeOf mark (decimal n)
decimal-free mark n low small k d within =
    let at = digits_decimal (numerals_by_value _ tells_by_index) n small k within in
    below-digits mark _ _ low (get_or_default (decimal n) k d 0 within) at.0

-- a text of bytes that are all above one is free of that
above-free : (mark : ℕ) (text : List ℕ) → list_all (nat_lt mark) text ≡ true → IsFreeOf mark text
above-free mark [] above = All-nil (λ (b : ℕ). b ≢ mark)
above-free mark (b ∷ text) above =
    let parts = and_parts (nat_lt mark b) (list_all (nat_lt mark) text) above in
    let high : mark < b = ltb-true mark b parts.0 in
    All-cons (λ (b : ℕ). b ≢ mark) b text (λ same. omega (arith, high, same)) (above-free mark text parts.1)

-- two words and the space between them
two-free : (mark : ℕ) (first second : List ℕ) → 32 ≢ mark → IsFreeOf mark first → IsFreeOf mark second
    → IsFreeOf mark (first ++ 32 ∷ second)
two-free mark first second other first_free second_free =
    let P : ℕ → Type 0 = λ (b : ℕ). b ≢ mark in
    All-append P first (32 ∷ second) first_free (All-cons P 32 second other second_free)

two-words : (first second : List ℕ) → IsFreeOf 32 first → IsFreeOf 32 second
    → words (first ++ 32 ∷ second) ≡ first ∷ second ∷ []
two-words first second first_free second_free =
    words-join (first ∷ second ∷ []) (omega arith)
    (All-cons (IsFreeOf 32) first (second ∷ []) first_free
    (All-cons (IsFreeOf 32) second [] second_free (All-nil (IsFreeOf 32))))

-- The line of an order.

order_line-free : (o : Ordered) → o.day ≤ LAST_DAY → IsFreeOf 10 (order_line o)
order_line-free o dated =
    two-free 10 (id_digits o.commit) (decimal o.day) (λ same. omega (arith, same)) (id_digits-free 10 o.commit refl)
    (decimal-free 10 o.day (omega arith) (omega (arith, dated)))

order_line-words : (o : Ordered) → o.day ≤ LAST_DAY → words (order_line o) ≡ id_digits o.commit ∷ decimal o.day ∷ []
order_line-words o dated =
    two-words (id_digits o.commit) (decimal o.day) (id_digits-free 32 o.commit refl)
    (decimal-free 32 o.day (omega arith) (omega (arith, dated)))

pub order_line-read : (o : Ordered) → o.day ≤ LAST_DAY → order_in_line (order_line o) ≡ Some o
order_line-read o dated =
    ap order_words (order_line-words o dated)
    ∙ ap₂ order_of (id_named-digits o.commit) (number-decimal o.day (omega (arith, dated)))
    ∙ ap (λ (t : Bool). if t then Some o else None) (le-leb o.day LAST_DAY dated)

-- The last line.

closing_line-free : (count : ℕ) → count < 2 ^ 64 → IsFreeOf 10 (closing_line count)
closing_line-free count small =
    two-free 10 (codes "closed") (decimal count) (λ same. omega (arith, same)) (above-free 10 (codes "closed") refl)
    (decimal-free 10 count (omega arith) small)

closing_line-words : (count : ℕ) → count < 2 ^ 64 → words (closing_line count) ≡ codes "closed" ∷ decimal count ∷ []
closing_line-words count small =
    two-words (codes "closed") (decimal count) (above-free 32 (codes "closed") refl)
    (decimal-free 32 count (omega arith) small)

closed-unnamed : id_named (codes "closed") ≡ None
unfolding id_named
closed-unnamed = refl

closing_line-other : (count : ℕ) → count < 2 ^ 64 → order_in_line (closing_line count) ≡ None
closing_line-other count small =
    ap order_words (closing_line-words count small)
    ∙ ap (λ (id : Option CommitId). order_of id (number (decimal count))) closed-unnamed

closing_line-closes : (n count : ℕ) → count ≡ n → count < 2 ^ 64 → closes n (words (closing_line count)) ≡ true
closing_line-closes n count same small =
    ap (closes n) (closing_line-words count small)
    ∙ ap (counts n) (number-decimal count small) ∙ eq-eqb count n same

-- All lines.

differs : (a b : CommitId) → a ≢ b → same_id a b ≡ false
differs a b other = ⊎_elim
    (λ (same : same_id a b ≡ true). absurd (other ((same_id-Decides a b).0 same)))
    (λ (no : same_id a b ≡ false). no)
    (cases_Bool (same_id a b))

-- the commit of an order has none among those before it
lacks : (read rest : List Ordered) (o : Ordered) → AllPairs (λ (a b : Ordered). a.commit ≢ b.commit) (read ++ o ∷ rest)
    → has_order read o.commit ≡ false
lacks read rest o apart =
    list_any_none (λ (r : Ordered). same_id r.commit o.commit) read (λ k d within.
    differs _ _ (λ same. apart k (length read) d within (long read rest o)
    (ap (λ (r : Ordered). r.commit) (get_or_append_left read (o ∷ rest) d k within)
    ∙ same ∙ sym (ap (λ (r : Ordered). r.commit) (get_or-append_seam read o rest d)))))
  where
    long : (read rest : List Ordered) (o : Ordered) → length read < length (read ++ o ∷ rest)
    long read rest o = omega (arith, length-append read (o ∷ rest))

dated-at : (read rest : List Ordered) (o : Ordered) → All (λ (x : Ordered). x.day ≤ LAST_DAY) (read ++ o ∷ rest)
    → o.day ≤ LAST_DAY
dated-at read rest o dated =
    subst (λ (x : Ordered). x.day ≤ LAST_DAY) (get_or-append_seam read o rest o)
    (dated (length read) o (omega (arith, length-append read (o ∷ rest))))

further : (read rest : List Ordered) (o : Ordered) → CanBeCarried (read ++ o ∷ rest) → is_further read o ≡ true
further read rest o are =
    and_from _ _ (lt-ltb (length read) MAX_CARRIED (omega (arith, are.few, length-append read (o ∷ rest))))
    (ap not (lacks read rest o are.apart))

-- orders that were read
abbrev taken : List Ordered → Result (List Ordered) ℕ
taken orders = Ok orders

-- the lines of the orders that are left, and the last line
read-back : (rest read : List Ordered) (l count : ℕ) → count ≡ length (read ++ rest) → CanBeCarried (read ++ rest)
    → orders_from read l (map order_line rest ++ closing_line count ∷ []) ≡ Ok (read ++ rest)
read-back [] read l count all are =
    let whole : read ++ [] ≡ read = append-nil read in
    let counted : count ≡ length read = all ∙ ap length whole in
    let small : count < 2 ^ 64 = omega (arith, all, are.few) in
    orders_from-last read l (closing_line count) [] (closing_line-other count small)
    (closing_line-closes (length read) count counted small)
    ∙ ap taken (sym whole)
read-back (o ∷ rest) read l count all are =
    let on : (read ++ o ∷ []) ++ rest ≡ read ++ o ∷ rest = append_assoc read (o ∷ []) rest in
    orders_from-more read l (order_line o) (map order_line rest ++ closing_line count ∷ []) o
    (order_line-read o (dated-at read rest o are.dated)) (further read rest o are)
    ∙ read-back rest (read ++ o ∷ []) (l + 1) count (all ∙ ap length (sym on)) (subst CanBeCarried (sym on) are)
    ∙ ap taken on

-- no line feed stands in a line
lines-free : (orders : List Ordered) (count : ℕ) → count < 2 ^ 64 → All (λ (o : Ordered). o.day ≤ LAST_DAY) orders
    → All (IsFreeOf 10) (map order_line orders ++ closing_line count ∷ [])
lines-free [] count small dated =
    All-cons (IsFreeOf 10) (closing_line count) [] (closing_line-free count small) (All-nil (IsFreeOf 10))
lines-free (o ∷ orders) count small dated =
    All-cons (IsFreeOf 10) (order_line o) (map order_line orders ++ closing_line count ∷ [])
    (order_line-free o (dated 0 o (omega arith)))
    (lines-free orders count small (λ k d within. dated (suc k) d (omega (arith, within))))

-- what is written of orders that may be carried over is read as them
pub handed_over-written : (orders : List Ordered) → CanBeCarried orders
    → handed_over (text_of (handover_lines orders)) ≡ Ok orders
handed_over-written orders are =
    ap (orders_from [] 1) (lines-text_of (handover_lines orders)
    (lines-free orders (length orders) (omega (arith, are.few)) are.dated))
    ∙ read-back orders [] 1 (length orders) refl are
