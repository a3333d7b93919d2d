-- Where the bytes of a head end, and where those at its front end: the first empty line behind its start ends it.
use Rattle.std.proofs.Common.{ℕ, ◌≡◌, ◌+◌, ◌<◌, ◌≤◌, Bool, true, false, List, [], ◌∷◌, ◌++◌, length, take, drop, get_or, refl, sym, ap, ◌∙◌, append_assoc, length-append, arith, ⊎_elim}
use Rattle.std.specs.Prelude.{IsTrue, All, ◌==◌, ◌&&◌, ◌||◌, if◌then◌else◌}
use Rattle.std.specs.List.{list_all, flat_map}
use Rattle.std.proofs.lemmas.Bool.{false≢true, cases_Bool, cases_lt, cond-true, cond-false, and_parts, eqb-true, ne_eqb}
use Rattle.std.proofs.lemmas.List.{take-append-le, take-append-drop, take_more}
use Rattle.std.proofs.lemmas.List.Elements.{All-head, All-tail}
use Rattle.httparse.specs.Ascii.{carriage_return, line_feed}
use Rattle.httparse.specs.Grammar.{LineEnd, crlf, lf, print_end, print_blank, print_version, Field, IsField, print_field, is_token_byte, is_uri_byte, is_value_byte, AllPass, RequestHead, IsRequestHead, ReadsRequest, print_request}
use Rattle.httparse.proofs.GrammarLemmas.{cons-append, print_request-append}
use Rattle.http_requests.specs.Items.{head_size, is_line_end}
use Rattle.http_requests.specs.Places.{place_behind, place_from, place_of, is_blank, is_end}
use Rattle.http_requests.specs.declared.place.Place.{Place}
use Rattle.http_requests.specs.declared.place.Place.TheVariants as place

-- ---- any bytes

pub place_from-append : (at : Place) (a b : List ℕ) → place_from at (a ++ b) ≡ place_from (place_from at a) b
place_from-append at [] b = refl
place_from-append at (x ∷ a) b = place_from-append (place_behind at x) a b

-- where a head may end, bytes were looked at
pub end-some : (bytes : List ℕ) → is_end (place_of bytes) ≡ true → 0 < length bytes
unfolding place_of
end-some [] at_end = absurd (false≢true at_end)
end-some (b ∷ bytes) at_end = omega arith

pub place_of-append : (a b : List ℕ) → place_of (a ++ b) ≡ place_from (place_of a) b
unfolding place_of
place_of-append a b = place_from-append place.Blank a b

place_from-end : (bytes : List ℕ) → place_from place.End bytes ≡ place.End
place_from-end [] = refl
place_from-end (b ∷ bytes) = place_from-end bytes

-- what has reached the end stays there
pub ended-on : (at : Place) (bytes : List ℕ) → is_end at ≡ true → is_end (place_from at bytes) ≡ true
ended-on place.Blank bytes at_end = absurd (false≢true at_end)
ended-on place.Line bytes at_end = absurd (false≢true at_end)
ended-on place.Start bytes at_end = absurd (false≢true at_end)
ended-on place.Return bytes at_end = absurd (false≢true at_end)
ended-on place.End bytes at_end = ap is_end (place_from-end bytes)

pub ended-append : (a b : List ℕ) → is_end (place_of a) ≡ true → is_end (place_of (a ++ b)) ≡ true
ended-append a b at_end = ap is_end (place_of-append a b) ∙ ended-on (place_of a) b at_end

-- ---- bytes that end lines at most

place_from-blank : (bytes : List ℕ) → list_all is_line_end bytes ≡ true → place_from place.Blank bytes ≡ place.Blank
place_from-blank [] all = refl
place_from-blank (b ∷ bytes) all =
    let parts = and_parts (is_line_end b) (list_all is_line_end bytes) all in
    ap (λ (at : Place). place_from at bytes) (cond-true (is_line_end b) place.Blank place.Line parts.0)
    ∙ place_from-blank bytes parts.1

pub place_of-blank : (bytes : List ℕ) → list_all is_line_end bytes ≡ true → place_of bytes ≡ place.Blank
unfolding place_of
place_of-blank bytes all = place_from-blank bytes all

away_either : (c : Bool) (x y : Place) → is_blank x ≡ false → is_blank y ≡ false → is_blank (if c then x else y) ≡ false
away_either true x y first second = first
away_either false x y first second = second

away_behind : (at : Place) (b : ℕ) → is_blank at ≡ false → is_blank (place_behind at b) ≡ false
away_behind place.Blank b away = absurd (false≢true (sym away))
away_behind place.Line b away = away_either (b == line_feed) place.Start place.Line refl refl
away_behind place.Start b away =
    away_either (b == line_feed) place.End (if b == carriage_return then place.Return else place.Line) refl
    (away_either (b == carriage_return) place.Return place.Line refl refl)
away_behind place.Return b away = away_either (b == line_feed) place.End place.Line refl refl
away_behind place.End b away = refl

-- no byte leads back before the first line
away_on : (at : Place) (bytes : List ℕ) → is_blank at ≡ false → is_blank (place_from at bytes) ≡ false
away_on at [] away = away
away_on at (b ∷ bytes) away = away_on (place_behind at b) bytes (away_behind at b away)

all_blank : (bytes : List ℕ) → is_blank (place_from place.Blank bytes) ≡ true → list_all is_line_end bytes ≡ true
all_blank [] stays = refl
all_blank (b ∷ bytes) stays =
    ⊎_elim
    (λ (ends : is_line_end b ≡ true).
    let first = ap (λ (at : Place). is_blank (place_from at bytes)) (cond-true (is_line_end b) place.Blank place.Line ends) in
    let behind = all_blank bytes (sym first ∙ stays) in
    λ k. ends k && behind k)
    (λ (busy : is_line_end b ≡ false).
    let first = ap (λ (at : Place). is_blank (place_from at bytes)) (cond-false (is_line_end b) place.Blank place.Line busy) in
    absurd (false≢true (sym (away_on place.Line bytes refl) ∙ sym first ∙ stays)))
    (cases_Bool (is_line_end b))

pub blank-place_of : (bytes : List ℕ) → is_blank (place_of bytes) ≡ true → list_all is_line_end bytes ≡ true
unfolding place_of
blank-place_of bytes at = all_blank bytes at

-- ---- the lines of a head

-- a byte that passes a test which another one fails isn't that one
other_byte : (test : ℕ → Bool) (stop b : ℕ) → test stop ≡ false → IsTrue (test b) → (b == stop) ≡ false
other_byte test stop b fails passes =
    ⊎_elim
    (λ (same : (b == stop) ≡ true). absurd (false≢true (sym fails ∙ ap test (sym (eqb-true b stop same)) ∙ passes)))
    (λ (differs : (b == stop) ≡ false). differs)
    (cases_Bool (b == stop))

line-stays : (test : ℕ → Bool) (bytes : List ℕ) → test line_feed ≡ false → AllPass test bytes → place_from place.Line bytes ≡ place.Line
line-stays test [] fails all = refl
line-stays test (b ∷ bytes) fails all =
    let first = other_byte test line_feed b fails (All-head (λ c. IsTrue (test c)) b bytes all) in
    ap (λ (at : Place). place_from at bytes) (cond-false (b == line_feed) place.Start place.Line first)
    ∙ line-stays test bytes fails (All-tail (λ c. IsTrue (test c)) b bytes all)

line-ended : (e : LineEnd) → place_from place.Line (print_end e) ≡ place.Start
line-ended crlf = refl
line-ended lf = refl

token-feed : is_token_byte line_feed ≡ false
unfolding is_token_byte
token-feed = refl

token-return : is_token_byte carriage_return ≡ false
unfolding is_token_byte
token-return = refl

-- a word begins the first line, or a later one
blank-word : (word : List ℕ) → 0 < length word → AllPass is_token_byte word → place_from place.Blank word ≡ place.Line
blank-word [] some all = absurd (omega (arith, some))
blank-word (b ∷ word) some all =
    let passes = All-head (λ c. IsTrue (is_token_byte c)) b word all in
    let no_return = other_byte is_token_byte carriage_return b token-return passes in
    let no_feed = other_byte is_token_byte line_feed b token-feed passes in
    let busy : is_line_end b ≡ false = λ k. no_return k || no_feed k in
    ap (λ (at : Place). place_from at word) (cond-false (is_line_end b) place.Blank place.Line busy)
    ∙ line-stays is_token_byte word token-feed (All-tail (λ c. IsTrue (is_token_byte c)) b word all)

start-word : (word : List ℕ) → 0 < length word → AllPass is_token_byte word → place_from place.Start word ≡ place.Line
start-word [] some all = absurd (omega (arith, some))
start-word (b ∷ word) some all =
    let passes = All-head (λ c. IsTrue (is_token_byte c)) b word all in
    let no_return = other_byte is_token_byte carriage_return b token-return passes in
    let no_feed = other_byte is_token_byte line_feed b token-feed passes in
    let later = if b == carriage_return then place.Return else place.Line in
    ap (λ (at : Place). place_from at word)
    (cond-false (b == line_feed) place.End later no_feed ∙ cond-false (b == carriage_return) place.Return place.Line no_return)
    ∙ line-stays is_token_byte word token-feed (All-tail (λ c. IsTrue (is_token_byte c)) b word all)

field-parts : (f : Field) → print_field f ≡ f.name ++ (58 ∷ (f.raw ++ print_end f.end))
field-parts f = regroup f.name f.raw (print_end f.end)
  where
    regroup : (a b c : List ℕ) → a ++ 58 ∷ b ++ c ≡ a ++ (58 ∷ (b ++ c))
    regroup a b c = simp (append_assoc, cons-append)

start-field : (f : Field) → IsField f → place_from place.Start (print_field f) ≡ place.Start
start-field f is =
    let value = f.raw ++ print_end f.end in
    ap (place_from place.Start) (field-parts f)
    ∙ place_from-append place.Start f.name (58 ∷ value)
    ∙ ap (λ (at : Place). place_from at (58 ∷ value)) (start-word f.name is.name.0 is.name.1)
    ∙ place_from-append place.Line f.raw (print_end f.end)
    ∙ ap (λ (at : Place). place_from at (print_end f.end)) (line-stays is_value_byte f.raw refl is.raw)
    ∙ line-ended f.end

start-fields : (fields : List Field) → All IsField fields → place_from place.Start (flat_map print_field fields) ≡ place.Start
start-fields [] all = refl
start-fields (f ∷ fields) all =
    let behind = flat_map print_field fields in
    place_from-append place.Start (print_field f) behind
    ∙ ap (λ (at : Place). place_from at behind) (start-field f (All-head IsField f fields all))
    ∙ start-fields fields (All-tail IsField f fields all)

blank-lines : (ends : List LineEnd) → place_from place.Blank (print_blank ends) ≡ place.Blank
blank-lines [] = refl
blank-lines (crlf ∷ ends) = blank-lines ends
blank-lines (lf ∷ ends) = blank-lines ends

line-version : (minor : ℕ) → place_from place.Line (print_version minor) ≡ place.Line
line-version minor = cond-false (48 + minor == line_feed) place.Start place.Line (ne_eqb (48 + minor) line_feed (λ same. omega (arith, same)))

-- ---- a whole head

-- what stands before the empty line that ends a head
lines_of : RequestHead → List ℕ
lines_of h =
    print_blank h.blank
    ++ (h.method ++ (32 ∷ (h.target ++ (32 ∷ (print_version h.minor ++ (print_end h.line_end ++ flat_map print_field h.fields))))))

lines-place : (h : RequestHead) → IsRequestHead h → place_of (lines_of h) ≡ place.Start
unfolding place_of lines_of
lines-place h is =
    let fields = flat_map print_field h.fields in
    let ended = print_end h.line_end ++ fields in
    let version = print_version h.minor ++ ended in
    let target = h.target ++ (32 ∷ version) in
    let method = h.method ++ (32 ∷ target) in
    place_from-append place.Blank (print_blank h.blank) method
    ∙ ap (λ (at : Place). place_from at method) (blank-lines h.blank)
    ∙ place_from-append place.Blank h.method (32 ∷ target)
    ∙ ap (λ (at : Place). place_from at (32 ∷ target)) (blank-word h.method is.method.0 is.method.1)
    ∙ place_from-append place.Line h.target (32 ∷ version)
    ∙ ap (λ (at : Place). place_from at (32 ∷ version)) (line-stays is_uri_byte h.target refl is.target.1)
    ∙ place_from-append place.Line (print_version h.minor) ended
    ∙ ap (λ (at : Place). place_from at ended) (line-version h.minor)
    ∙ place_from-append place.Line (print_end h.line_end) fields
    ∙ ap (λ (at : Place). place_from at fields) (line-ended h.line_end)
    ∙ start-fields h.fields is.fields

head-lines : (h : RequestHead) (rest : List ℕ) → print_request h ++ rest ≡ lines_of h ++ (print_end h.last ++ rest)
unfolding lines_of
head-lines h rest =
    print_request-append h rest
    ∙ regroup (print_blank h.blank) h.method h.target (print_version h.minor) (print_end h.line_end) (flat_map print_field h.fields)
    (print_end h.last) rest
  where
    regroup : (a b c d e f g r : List ℕ)
        → a ++ (b ++ 32 ∷ (c ++ 32 ∷ (d ++ (e ++ ((f ++ g) ++ r)))))
        ≡ (a ++ (b ++ (32 ∷ (c ++ (32 ∷ (d ++ (e ++ f))))))) ++ (g ++ r)
    regroup a b c d e f g r = simp append_assoc

-- the empty line without its line feed
before_feed : LineEnd → List ℕ
before_feed crlf = carriage_return ∷ []
before_feed lf = []

end-parts : (e : LineEnd) (rest : List ℕ) → print_end e ++ rest ≡ before_feed e ++ (line_feed ∷ rest)
unfolding before_feed
end-parts crlf rest = refl
end-parts lf rest = refl

end-later : (e : LineEnd) → is_end (place_from place.Start (before_feed e)) ≡ false
unfolding before_feed
end-later crlf = refl
end-later lf = refl

end-now : (e : LineEnd) → is_end (place_from place.Start (print_end e)) ≡ true
end-now crlf = refl
end-now lf = refl

-- bytes that begin with a head end behind it, or at its end
pub head-ends : (bytes : List ℕ) (h : RequestHead) (rest : List ℕ) → ReadsRequest bytes h rest → is_end (place_of bytes) ≡ true
head-ends bytes h rest reads =
    ap (λ (l : List ℕ). is_end (place_of l)) (reads.1 ∙ head-lines h rest)
    ∙ ap is_end (place_of-append (lines_of h) (print_end h.last ++ rest))
    ∙ ap (λ (at : Place). is_end (place_from at (print_end h.last ++ rest))) (lines-place h reads.0)
    ∙ ap is_end (place_from-append place.Start (print_end h.last) rest)
    ∙ ended-on (place_from place.Start (print_end h.last)) rest (end-now h.last)

-- no front of a head ends it
pub head-within : (bytes : List ℕ) (h : RequestHead) (rest : List ℕ) (n : ℕ) → ReadsRequest bytes h rest → is_end (place_of (take n bytes)) ≡ true
    → head_size h ≤ n
head-within bytes h rest n reads at_end =
    let front = lines_of h ++ before_feed h.last in
    let behind = line_feed ∷ rest in
    let whole : bytes ≡ front ++ behind =
    reads.1 ∙ head-lines h rest ∙ ap (λ (l : List ℕ). lines_of h ++ l) (end-parts h.last rest)
    ∙ sym (append_assoc (lines_of h) (before_feed h.last) behind)
    in
    let sizes = ap length (sym reads.1 ∙ whole) in
    let size : head_size h ≡ length front + 1 =
    omega (arith, sizes, length-append (print_request h) rest, length-append front behind)
    in
    ⊎_elim
    (λ (short : n < head_size h).
    let within : n ≤ length front = omega (arith, short, size) in
    let same = ap (take n) whole ∙ take-append-le n front behind within in
    let so_far = sym (ap (λ (l : List ℕ). is_end (place_of l)) same) ∙ at_end in
    let reached = sym (ap (λ (l : List ℕ). is_end (place_of l)) (take-append-drop n front)) ∙ ended-append (take n front) (drop n front) so_far in
    let not_yet = ap is_end (place_of-append (lines_of h) (before_feed h.last))
    ∙ ap (λ (at : Place). is_end (place_from at (before_feed h.last))) (lines-place h reads.0)
    ∙ end-later h.last
    in
    absurd (false≢true (sym not_yet ∙ reached)))
    (λ (long : head_size h ≤ n). long)
    (cases_lt n (head_size h))

-- ---- a look at one byte more

pub place_of-more : (bytes : List ℕ) (i d : ℕ) → i < length bytes → place_of (take (i + 1) bytes) ≡ place_behind (place_of (take i bytes)) (get_or bytes i d)
place_of-more bytes i d inside =
    ap place_of (take_more bytes i d inside) ∙ place_of-append (take i bytes) (get_or bytes i d ∷ [])

pub ruleset looking = (place_of-more)
