-- How many line feeds there are: a head has one behind each of its fields, and one more.
use Rattle.std.proofs.Common.{ℕ, zero, suc, ◌≡◌, ◌+◌, ◌<◌, ◌≤◌, Bool, true, false, cond, List, [], ◌∷◌, ◌++◌, length, take, drop, filter, get_or, refl, sym, ap, subst, ◌∙◌, arith, ⊎_elim, Result, Err}
use Rattle.std.specs.Prelude.{◌==◌}
use Rattle.std.specs.List.{flat_map}
use Rattle.std.proofs.Math.Seq.{take-add}
use Rattle.std.proofs.lemmas.Bool.{cases_Bool, cond-false}
use Rattle.std.proofs.lemmas.List.{take-take, take_more}
use Rattle.httparse.specs.Ascii.{line_feed}
use Rattle.httparse.specs.Grammar.{Field, LineEnd, crlf, lf, NeverHasRequest, RequestHead, print_blank, print_end, print_field, print_request, print_section, print_version}
use Rattle.httparse.specs.Outcome.{OnInvalid, OnTooManyHeaders}
use Rattle.httparse.specs.Spans.{RequestExceeds}
use Rattle.httparse.specs.declared.Error.{Error}
use Rattle.httparse.proofs.GrammarLemmas.{print_request-append}
use Rattle.http_requests.specs.Looks.{feeds}
use Rattle.http_requests.proofs.Strides.{NoFeed}

-- ---- any bytes

feeds_more : (c : Bool) (b : ℕ) (bytes : List ℕ) → length (cond c (b ∷ bytes) bytes) ≡ length (cond c (b ∷ []) []) + length bytes
feeds_more true b bytes = omega arith
feeds_more false b bytes = omega arith

feeds-cons : (b : ℕ) (bytes : List ℕ) → feeds (b ∷ bytes) ≡ feeds (b ∷ []) + feeds bytes
feeds-cons b bytes = feeds_more (b == line_feed) b (filter (λ x. x == line_feed) bytes)

pub feeds-append : (a b : List ℕ) → feeds (a ++ b) ≡ feeds a + feeds b
feeds-append [] b = omega arith
feeds-append (x ∷ a) b = omega (arith, feeds-cons x (a ++ b), feeds-cons x a, feeds-append a b)

feeds_few : (c : Bool) (b : ℕ) → length (cond c (b ∷ []) []) ≤ 1
feeds_few true b = omega arith
feeds_few false b = omega arith

-- the bytes up to some place with the next ones
pub feeds-add : (bytes : List ℕ) (count room m : ℕ) → m ≤ room
    → feeds (take (count + m) bytes) ≡ feeds (take count bytes) + feeds (take m (take room (drop count bytes)))
feeds-add bytes count room m within =
    ap feeds (take-add count m bytes)
    ∙ feeds-append (take count bytes) (take m (drop count bytes))
    ∙ ap (λ (l : List ℕ). feeds (take count bytes) + feeds l) (sym (take-take m room (drop count bytes) within))

-- one byte
pub feeds_one : (bytes : List ℕ) (d lines : ℕ) → 0 < length bytes → feeds (get_or bytes 0 d ∷ []) ≤ lines → feeds (take 1 bytes) ≤ lines
feeds_one [] d lines some few = absurd (omega (arith, some))
feeds_one (b ∷ bytes) d lines some few = few

-- bytes without one, and those with the first one
pub no-feeds : (bytes : List ℕ) (n : ℕ) → NoFeed bytes n → feeds (take n bytes) ≡ 0
no-feeds bytes zero none = refl
no-feeds [] (suc n) none = refl
no-feeds (b ∷ bytes) (suc n) none =
    ⊎_elim
    (λ (feed : (b == line_feed) ≡ true). absurd (none 0 (omega arith) feed))
    (λ (other : (b == line_feed) ≡ false).
    ap length (cond-false (b == line_feed) (b ∷ filter (λ x. x == line_feed) (take n bytes)) (filter (λ x. x == line_feed) (take n bytes)) other)
    ∙ no-feeds bytes n (λ k below. none (suc k) (omega (arith, below))))
    (cases_Bool (b == line_feed))

pub feeds-line : (bytes : List ℕ) (n : ℕ) → n < length bytes → NoFeed bytes n → feeds (take (n + 1) bytes) ≤ 1
feeds-line bytes n inside none =
    let more = ap feeds (take_more bytes n 0 inside) in
    let last = get_or bytes n 0 in
    omega (arith, more, feeds-append (take n bytes) (last ∷ []), no-feeds bytes n none, feeds_few (last == line_feed) last)

-- ---- a head

feeds-behind : (a b : List ℕ) → feeds b ≤ feeds (a ++ b)
feeds-behind a b = omega (arith, feeds-append a b)

feeds-later : (b : ℕ) (bytes : List ℕ) → feeds bytes ≤ feeds (b ∷ bytes)
feeds-later b bytes = omega (arith, feeds-cons b bytes)

end-feeds : (e : LineEnd) → feeds (print_end e) ≡ 1
end-feeds crlf = refl
end-feeds lf = refl

field-feeds : (f : Field) → 1 ≤ feeds (print_field f)
field-feeds f =
    let some : 1 ≤ feeds ((f.name ++ 58 ∷ f.raw) ++ print_end f.end) =
    omega (arith, feeds-behind (f.name ++ 58 ∷ f.raw) (print_end f.end), end-feeds f.end)
    in
    some

section-feeds : (fields : List Field) → length fields ≤ feeds (flat_map print_field fields)
section-feeds [] = omega arith
section-feeds (f ∷ fields) =
    omega (arith, feeds-append (print_field f) (flat_map print_field fields), field-feeds f, section-feeds fields)

head-feeds : (h : RequestHead) → length h.fields + 1 ≤ feeds (print_request h ++ [])
head-feeds h =
    let section = print_section h.fields h.last ++ [] in
    let line = print_end h.line_end ++ section in
    let version = print_version h.minor ++ line in
    let target = h.target ++ 32 ∷ version in
    let method = h.method ++ 32 ∷ target in
    let whole = ap feeds (print_request-append h []) in
    let fields = flat_map print_field h.fields in
    omega (
      arith,
      whole,
      feeds-behind (print_blank h.blank) method,
      feeds-behind h.method (32 ∷ target),
      feeds-later 32 target,
      feeds-behind h.target (32 ∷ version),
      feeds-later 32 version,
      feeds-behind (print_version h.minor) line,
      feeds-append (print_end h.line_end) section,
      end-feeds h.line_end,
      feeds-append (print_section h.fields h.last) [],
      feeds-append fields (print_end h.last),
      section-feeds h.fields,
    )

-- bytes of few lines have no head of more fields
few-exceed : (room : ℕ) (bytes : List ℕ) → feeds bytes ≤ room → RequestExceeds room bytes → ⊥
few-exceed room bytes few exceeds =
    let front = exceeds.0 in
    let rest = exceeds.1 in
    let whole = ap feeds exceeds.2 in
    let h = exceeds.3 in
    let printed = ap feeds exceeds.4.1 in
    let over = exceeds.5 in
    omega (arith, few, whole, feeds-append front rest, printed, feeds-append front (print_end lf), end-feeds lf, head-feeds h, over)

-- where the parser has room for all lines, its error is that no head can come
pub error-never : {A : Type 0} (r : Result A Error) (e : Error) (room : ℕ) (bytes : List ℕ) → r ≡ Err e → OnInvalid r (NeverHasRequest bytes)
    → OnTooManyHeaders r (RequestExceeds room bytes) → feeds bytes ≤ room → NeverHasRequest bytes
error-never {A} r e room bytes is invalid many few =
    let error : Result A Error = Err e in
    let never : OnInvalid error (NeverHasRequest bytes) = subst (λ (x : Result A Error). OnInvalid x (NeverHasRequest bytes)) is invalid in
    never (λ same. few-exceed room bytes few (many (is ∙ ap Err same)))
