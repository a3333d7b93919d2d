-- Several bytes of a head at once.
use Rattle.std.proofs.Common.{ℕ, zero, suc, ◌≡◌, ◌+◌, ◌-◌, ◌<◌, ◌≤◌, Bool, true, false, List, [], ◌∷◌, length, take, drop, get_or, refl, sym, ap, ◌∙◌, arith, ⊎_elim}
use Rattle.std.specs.Prelude.{◌==◌, ◌||◌}
use Rattle.std.specs.List.{slice_index}
use Rattle.std.proofs.Math.Bool.{or-true}
use Rattle.std.proofs.Math.Seq.{take-add}
use Rattle.std.proofs.lemmas.Bool.{false≢true, cases_Bool, cases_lt, cond-false, cond-true}
use Rattle.std.proofs.lemmas.List.{take-take, take_more}
use Rattle.httparse.specs.Ascii.{carriage_return, line_feed}
use Rattle.http_requests.specs.Items.{is_line_end}
use Rattle.http_requests.specs.Places.{place_behind, place_from, place_of, is_end}
use Rattle.http_requests.specs.declared.place.Place.{Place}
use Rattle.http_requests.specs.declared.place.Place.TheVariants as place
use Rattle.http_requests.proofs.Places.{place_from-append, place_of-append}

-- no line feed stands among the first so many bytes
abbrev pub NoFeed : List ℕ → ℕ → Type 0
NoFeed bytes n = (k : ℕ) → k < n → ¬ ((slice_index bytes k == line_feed) ≡ true)

-- a line goes on over bytes without a line feed
pub line-on : (bytes : List ℕ) (n : ℕ) → NoFeed bytes n → place_from place.Line (take n bytes) ≡ place.Line
line-on bytes zero none = refl
line-on [] (suc n) none = refl
line-on (b ∷ bytes) (suc n) none =
    ⊎_elim
    (λ (feed : (b == line_feed) ≡ true). absurd (none 0 (omega arith) feed))
    (λ (other : (b == line_feed) ≡ false).
    ap (λ (at : Place). place_from at (take n bytes)) (cond-false (b == line_feed) place.Start place.Line other)
    ∙ line-on bytes n (λ k below. none (suc k) (omega (arith, below))))
    (cases_Bool (b == line_feed))

-- and ends behind the first one
pub line-feed : (bytes : List ℕ) (n : ℕ) → n < length bytes → NoFeed bytes n → (slice_index bytes n == line_feed) ≡ true
    → place_from place.Line (take (n + 1) bytes) ≡ place.Start
line-feed bytes n inside none feed =
    ap (place_from place.Line) (take_more bytes n 0 inside)
    ∙ place_from-append place.Line (take n bytes) (get_or bytes n 0 ∷ [])
    ∙ ap (λ (at : Place). place_behind at (get_or bytes n 0)) (line-on bytes n none)
    ∙ cond-true (get_or bytes n 0 == line_feed) place.Start place.Line feed

-- ---- a line that begins

abbrev in_line : Place → Bool
in_line place.Blank = false
in_line place.Line = true
in_line place.Start = false
in_line place.Return = false
in_line place.End = false

out_of_line : (at there : Place) → at ≡ there → in_line there ≡ false → at ≡ place.Line → ⊥
out_of_line at there is out line = false≢true (sym out ∙ sym (ap in_line is) ∙ ap in_line line)

-- no line goes on behind a line feed
feed-ends : (at : Place) (b : ℕ) → (b == line_feed) ≡ true → place_behind at b ≡ place.Line → ⊥
feed-ends place.Blank b feed =
    let ends : is_line_end b ≡ true =
    ap (λ (t : Bool). (b == carriage_return) || t) feed ∙ or-true (b == carriage_return)
    in
    out_of_line _ place.Blank (cond-true (is_line_end b) place.Blank place.Line ends) refl
feed-ends place.Line b feed = out_of_line _ place.Start (cond-true (b == line_feed) place.Start place.Line feed) refl
feed-ends place.Start b feed = out_of_line _ place.End (cond-true (b == line_feed) place.End _ feed) refl
feed-ends place.Return b feed = out_of_line _ place.End (cond-true (b == line_feed) place.End place.Line feed) refl
feed-ends place.End b feed = out_of_line _ place.End refl refl

-- a byte that begins a line goes on in one
line-goes : (at : Place) (b : ℕ) → place_behind at b ≡ place.Line → place_behind place.Line b ≡ place.Line
line-goes at b begins =
    ⊎_elim
    (λ (feed : (b == line_feed) ≡ true). absurd (feed-ends at b feed begins))
    (λ (other : (b == line_feed) ≡ false). cond-false (b == line_feed) place.Start place.Line other)
    (cases_Bool (b == line_feed))

-- a line that begins with the first byte leads where one leads that goes on there
pub line-begins : (at : Place) (bytes : List ℕ) (d n : ℕ) → 0 < length bytes
    → place_behind at (get_or bytes 0 d) ≡ place.Line → 0 < n
    → place_from place.Line (take n bytes) ≡ place_from at (take n bytes)
line-begins at [] d n some begins more = absurd (omega (arith, some))
line-begins at (b ∷ bytes) d zero some begins more = absurd (omega (arith, more))
line-begins at (b ∷ bytes) d (suc n) some begins more =
    ap (λ (p : Place). place_from p (take n bytes)) (line-goes at b begins ∙ sym begins)

-- and no head ends there
pub line-first : (at : Place) (bytes : List ℕ) (d count : ℕ) → 0 < length bytes → is_end at ≡ false
    → place_behind at (get_or bytes 0 d) ≡ place.Line
    → ((n : ℕ) → n < count → is_end (place_from place.Line (take n bytes)) ≡ false)
    → (n : ℕ) → n < count → is_end (place_from at (take n bytes)) ≡ false
line-first at bytes d count some open_ begins first zero below = open_
line-first at bytes d count some open_ begins first (suc n) below =
    ap is_end (sym (line-begins at bytes d (suc n) some begins (omega arith))) ∙ first (suc n) below

-- the bytes up to some place with the next ones
pub place_of-add : (bytes : List ℕ) (count room m : ℕ) → m ≤ room
    → place_of (take (count + m) bytes) ≡ place_from (place_of (take count bytes)) (take m (take room (drop count bytes)))
place_of-add bytes count room m within =
    ap place_of (take-add count m bytes)
    ∙ place_of-append (take count bytes) (take m (drop count bytes))
    ∙ ap (place_from (place_of (take count bytes))) (sym (take-take m room (drop count bytes) within))

-- where no head ends up to some place, nor in the next bytes
pub first-add : (bytes : List ℕ) (count room more : ℕ) (at : Place) → at ≡ place_of (take count bytes) → more ≤ room
    → ((n : ℕ) → n < count → is_end (place_of (take n bytes)) ≡ false)
    → ((n : ℕ) → n < more → is_end (place_from at (take n (take room (drop count bytes)))) ≡ false)
    → (n : ℕ) → n < count + more → is_end (place_of (take n bytes)) ≡ false
first-add bytes count room more at is within before next n below =
    ⊎_elim
    (λ (early : n < count). before n early)
    (λ (late : count ≤ n).
    let m = n - count in
    let sum : n ≡ count + m = omega (arith, late) in
    let small : m < more = omega (arith, late, below) in
    ap (λ (k : ℕ). is_end (place_of (take k bytes))) sum
    ∙ ap is_end (place_of-add bytes count room m (omega (arith, small, within)))
    ∙ ap (λ (p : Place). is_end (place_from p (take m (take room (drop count bytes))))) (sym is)
    ∙ next m small)
    (cases_lt n count)
