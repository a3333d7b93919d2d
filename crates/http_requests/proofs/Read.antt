-- What was read of the bytes held, and what that says of them.
use Rattle.std.proofs.Common.{ℕ, ◌≡◌, ◌+◌, ◌-◌, ◌*◌, ◌<◌, ◌≤◌, inl, inr, Bool, true, false, List, [], ◌∷◌, ◌++◌, length, take, drop, refl, sym, ap, subst, ◌∙◌, append_assoc, length-append, arith, ⊎_elim}
use Rattle.std.specs.List.{list_all}
use Rattle.std.proofs.Math.Seq.{take-append-add}
use Rattle.std.proofs.lemmas.Bool.{false≢true, cases_Bool, and_parts}
use Rattle.std.proofs.lemmas.List.{take-append-le, take_all, take-append-drop, length-take, take-take}
use Rattle.std.proofs.lemmas.List.Folds.{list_all-append}
use Rattle.httparse.specs.Grammar.{RequestHead, ReadsRequest, HasNoRequest, MayBecomeRequest, print_request}
use Rattle.httparse.specs.Spans.{RequestOverflows}
use Rattle.httparse.proofs.GrammarLemmas.{ReadsRequest-append}
use Rattle.http_requests.specs.Items.{HasHead, IsIdle, head_size, is_line_end}
use Rattle.http_requests.specs.Looks.{IsLook, IsLookThrough, IsTried, feeds}
use Rattle.http_requests.specs.Heads.{IsFrontHead}
use Rattle.http_requests.specs.declared.head.Head.{Head}
use Rattle.http_requests.specs.Next.{AwaitsBody, AwaitsHead, HasNoHeadFor, IsNextFor, refusal}
use Rattle.http_requests.specs.Places.{is_blank, is_end, place_from, place_of}
use Rattle.http_requests.specs.Readings.{IsBegun, IsBodyAwaited, IsReading, IsStage}
use Rattle.http_requests.specs.declared.look.Look.{Look}
use Rattle.http_requests.specs.declared.next.Awaited.{Awaited}
use Rattle.http_requests.specs.declared.place.Place.{Place}
use Rattle.http_requests.specs.declared.place.Place.TheVariants as place
use Rattle.http_requests.specs.declared.reading.Reading.{Reading}
use Rattle.http_requests.specs.declared.reading.Stage.{Stage}
use Rattle.http_requests.specs.declared.reading.Stage.TheVariants as stage
use Rattle.http_requests.specs.declared.request.Request.{Request}
use Rattle.http_words.specs.declared.fault.Fault.TheVariants as fault
use Rattle.http_words.specs.declared.limits.TheConstants.{MAX_HEAD_BYTES, MAX_FIELDS}
use Rattle.http_requests.proofs.Heads.{HasHead-append, HasHead-size, busy-append, take-append-some}
use Rattle.http_requests.proofs.Parts.{take-min}
use Rattle.http_requests.proofs.Places.{head-ends, head-within, place_of-blank, blank-place_of}
use Rattle.http_requests.proofs.Says.{bad-says, cut-says, full-busy, nothing-follows, whole-says}

-- ---- what was read stays, whatever follows

look-append : (look : Look) (bytes more : List ℕ) → IsLook look bytes → IsLook look (bytes ++ more)
look-append look bytes more is = record {
  within = omega (arith, is.within, length-append bytes more);
  lines = omega (arith, is.lines, ap feeds (take-append-le look.count bytes more is.within));
  few_lines = is.few_lines;
  place = is.place ∙ ap place_of (sym (take-append-le look.count bytes more is.within));
}

tried-append : (tried : ℕ) (look : Look) (bytes more : List ℕ) → look.count ≤ length bytes → IsTried tried look bytes → IsTried tried look (bytes ++ more)
tried-append tried look bytes more within is = record {
  before = is.before;
  may = ⊎_elim
      (λ (none : tried ≡ 0). inl none)
      (λ (may : MayBecomeRequest (take tried bytes)).
      inr (subst MayBecomeRequest (sym (take-append-le tried bytes more (omega (arith, is.before, within)))) may))
      is.may;
}

stage-append : (s : Stage) (bytes more : List ℕ) → IsStage s bytes → IsStage s (bytes ++ more)
stage-append (stage.Head begun) bytes more is = record {
  look = look-append begun.look bytes more is.look;
  few = is.few;
  no_end = is.no_end;
  tried = tried-append begun.tried begun.look bytes more is.look.within is.tried;
}
stage-append (stage.Body request) bytes more is = record {
  head = is.head;
  has = HasHead-append bytes more is.head is.has;
  becomes = is.becomes;
}

pub reading-append : (reading : Reading) (bytes more : List ℕ) → IsReading reading bytes → IsReading reading (bytes ++ more)
reading-append reading bytes more is = stage-append reading.stage bytes more is

-- a head that stands in so many bytes at the front, and what it becomes
pub awaited-front : (request : Request) (held : List ℕ) (count : ℕ) → IsBodyAwaited request (take count held) → IsBodyAwaited request held
awaited-front request held count is =
    subst (IsBodyAwaited request) (take-append-drop count held)
    (stage-append (stage.Body request) (take count held) (drop count held) is)

take-none : (bytes : List ℕ) → take 0 bytes ≡ []
take-none [] = refl
take-none (b ∷ bytes) = refl

-- nothing was read
pub nothing-begun : (bytes : List ℕ) → IsBegun (record { look = record { count = 0; lines = 0; place = place.Blank }; tried = 0 }) bytes
unfolding place_of
nothing-begun bytes = record {
  look = record { within = omega arith; lines = omega (arith, ap feeds (take-none bytes)); few_lines = omega arith; place = sym (ap (place_from place.Blank) (take-none bytes)) };
  few = omega arith;
  no_end = refl;
  tried = record { before = omega arith; may = inl refl };
}

-- ---- a head, and its body

front-split : (n : ℕ) (l : List ℕ) → n ≤ MAX_HEAD_BYTES → (more : List ℕ) × (take MAX_HEAD_BYTES l ≡ take n l ++ more)
front-split n l fits =
    let cut = take-append-some MAX_HEAD_BYTES (take n l) (drop n l) in
    let short : length (take n l) ≤ MAX_HEAD_BYTES = omega (arith, length-take n l, fits) in (
      cut.0,
      sym (ap (take MAX_HEAD_BYTES) (take-append-drop n l)) ∙ cut.1
          ∙ ap (λ (front : List ℕ). front ++ cut.0) (take_all MAX_HEAD_BYTES (take n l) short),
    )

-- the head that stands in so many bytes at the front is at the front
pub front-HasHead : (held : List ℕ) (count : ℕ) (head : RequestHead) (rest : List ℕ) → count ≤ MAX_HEAD_BYTES
    → ReadsRequest (take count held) head rest → length head.fields ≤ MAX_FIELDS → HasHead held head
front-HasHead held count head rest few reads fit =
    let more = front-split count held few in
    let all = rest ++ more.0 in
    record {
      rest = all;
      reads = subst (λ (l : List ℕ). ReadsRequest l head all) (sym more.1) (ReadsRequest-append (take count held) head rest more.0 reads);
      few_fields = fit;
    }

-- the same of its parts
pub at-HasHead : (held : List ℕ) (count : ℕ) (parts : Head) → count ≤ MAX_HEAD_BYTES → (at : IsFrontHead (take count held) parts) → HasHead held at.head
at-HasHead held count parts few at = front-HasHead held count at.head at.rest few at.reads at.few_fields

-- the same in all of them
pub whole-HasHead : (bytes : List ℕ) (parts : Head) → length bytes ≤ MAX_HEAD_BYTES → (at : IsFrontHead bytes parts) → HasHead bytes at.head
whole-HasHead bytes parts few at =
    let all : bytes ≡ take (length bytes) bytes = sym (take_all (length bytes) bytes (omega arith)) in
    front-HasHead bytes (length bytes) at.head at.rest few (subst (λ (l : List ℕ). ReadsRequest l at.head at.rest) all at.reads) at.few_fields

-- all bytes were looked at
pub through-lines : (look : Look) (held : List ℕ) → IsLookThrough look held → length held ≤ MAX_HEAD_BYTES → feeds held ≤ look.lines
through-lines look held is few =
    let whole : take look.count held ≡ held = take_all look.count held (omega (arith, is.all, few)) in
    omega (arith, is.is.lines, ap feeds whole)

pub body-whole : (ended : Bool) (held : List ℕ) (request : Request) → IsBodyAwaited request held → request.size ≤ length held
    → IsNextFor ended held request
body-whole ended held request is room =
    let became = is.becomes in
    whole-says ended held is.head became.len request is.has became.states (omega (arith, became.whole.size, room)) became.whole

pub body-cut : (held : List ℕ) (request : Request) → IsBodyAwaited request held → length held < request.size
    → IsNextFor true held (refusal request.interim request.withheld fault.BadRequest)
body-cut held request is short =
    let became = is.becomes in
    cut-says held is.head became.len request.interim request.withheld is.has became.states (omega (arith, became.whole.size, short))
    became.whole.interim became.whole.withheld

pub body-awaited : (held : List ℕ) (request : Request) (awaited : Awaited) → IsBodyAwaited request held → length held < request.size
    → awaited.interim ≡ request.interim → awaited.size ≡ request.size → AwaitsBody false held awaited
body-awaited held request awaited is short interim size =
    let became = is.becomes in
    record {
      open_ = refl;
      head = is.head;
      has = is.has;
      len = became.len;
      body = became.states;
      size = size ∙ became.whole.size;
      lacks = omega (arith, size, short);
      bounded = omega (arith, size, became.whole.size, became.small, (HasHead-size held is.head is.has).0);
      interim = interim ∙ became.whole.interim;
    }

-- ---- bytes that hold no head

through-front : (look : Look) (held : List ℕ) → IsLookThrough look held → take look.count held ≡ take MAX_HEAD_BYTES held
through-front look held is = ap (λ (n : ℕ). take n held) is.all ∙ take-min held MAX_HEAD_BYTES

pub through-none : (look : Look) (held : List ℕ) → IsLookThrough look held → (head : RequestHead) → ¬ (HasHead held head)
through-none look held is head has =
    let there = head-ends (take MAX_HEAD_BYTES held) head has.rest has.reads in
    let here = is.is.place ∙ ap place_of (through-front look held is) in
    false≢true (sym is.no_end ∙ ap is_end here ∙ there)

pub full-headless : (ended : Bool) (look : Look) (held : List ℕ) → IsLookThrough look held → MAX_HEAD_BYTES ≤ length held → HasNoHeadFor ended held
full-headless ended look held is full more follows head has =
    through-none look held is head (record {
      rest = has.rest;
      reads = subst (λ (l : List ℕ). ReadsRequest l head has.rest) (take-append-le MAX_HEAD_BYTES held more full) has.reads;
      few_fields = has.few_fields;
    })

pub ended-headless : (look : Look) (held : List ℕ) → IsLookThrough look held → HasNoHeadFor true held
ended-headless look held is more follows head has =
    through-none look held is head (subst (λ (l : List ℕ). HasHead l head) (nothing-follows held more follows) has)

-- what the parser says of so many bytes at the front, that no head of few enough fields begins with them
pub never-headless : (ended : Bool) (held : List ℕ) (count : ℕ) → count ≤ length held → count ≤ MAX_HEAD_BYTES
    → RequestOverflows MAX_FIELDS (take count held) → HasNoHeadFor ended held
never-headless ended held count within few overflows more follows head has =
    let cut = take-append-some MAX_HEAD_BYTES (take count held) (drop count held ++ more) in
    let short : length (take count held) ≤ MAX_HEAD_BYTES = omega (arith, length-take count held, few) in
    let whole : take count held ++ (drop count held ++ more) ≡ held ++ more =
    sym (append_assoc (take count held) (drop count held) more) ∙ ap (λ (l : List ℕ). l ++ more) (take-append-drop count held)
    in
    let front : take MAX_HEAD_BYTES (held ++ more) ≡ take count held ++ cut.0 =
    ap (take MAX_HEAD_BYTES) (sym whole) ∙ cut.1 ∙ ap (λ (l : List ℕ). l ++ cut.0) (take_all MAX_HEAD_BYTES (take count held) short)
    in
    let over = overflows cut.0 head has.rest (subst (λ (l : List ℕ). ReadsRequest l head has.rest) front has.reads) in
    omega (arith, over, has.few_fields)

-- the same of all of them
pub never-whole : (ended : Bool) (bytes : List ℕ) → length bytes ≤ MAX_HEAD_BYTES → RequestOverflows MAX_FIELDS bytes → HasNoHeadFor ended bytes
never-whole ended bytes few overflows =
    let all : bytes ≡ take (length bytes) bytes = sym (take_all (length bytes) bytes (omega arith)) in
    never-headless ended bytes (length bytes) (omega arith) few (subst (RequestOverflows MAX_FIELDS) all overflows)

-- so many bytes end where a head would, and are none
pub other-headless : (ended : Bool) (held : List ℕ) (count : ℕ) → count ≤ length held → count ≤ MAX_HEAD_BYTES
    → is_end (place_of (take count held)) ≡ true → HasNoRequest (take count held) → HasNoHeadFor ended held
other-headless ended held count within few at_end none more follows head has =
    let all = held ++ more in
    let same : take count (take MAX_HEAD_BYTES all) ≡ take count held =
    take-take count MAX_HEAD_BYTES all few ∙ take-append-le count held more within
    in
    let size = head-within (take MAX_HEAD_BYTES all) head has.rest count has.reads (ap (λ (l : List ℕ). is_end (place_of l)) same ∙ at_end) in
    let sum : count ≡ head_size head + (count - head_size head) = omega (arith, size) in
    let cut : take count (print_request head ++ has.rest) ≡ print_request head ++ take (count - head_size head) has.rest =
    ap (λ (n : ℕ). take n (print_request head ++ has.rest)) sum ∙ take-append-add (print_request head) has.rest (count - head_size head)
    in
    none head (take (count - head_size head) has.rest) (has.reads.0, sym same ∙ ap (take count) has.reads.1 ∙ cut)

-- ---- what comes of bytes without a head

busy_bytes : (look : Look) (held : List ℕ) → IsLookThrough look held → is_blank look.place ≡ false → list_all is_line_end held ≡ false
busy_bytes look held is busy =
    ⊎_elim
    (λ (blank : list_all is_line_end held ≡ true).
    let parts = sym (list_all-append is_line_end (take look.count held) (drop look.count held))
    ∙ ap (list_all is_line_end) (take-append-drop look.count held) ∙ blank
    in
    let at = is.is.place ∙ place_of-blank (take look.count held) (and_parts _ _ parts).0 in
    absurd (false≢true (sym busy ∙ ap is_blank at)))
    (λ (other : list_all is_line_end held ≡ false). other)
    (cases_Bool (list_all is_line_end held))

pub bad-open : (ended : Bool) (look : Look) (held : List ℕ) → IsLookThrough look held → is_blank look.place ≡ false → HasNoHeadFor ended held
    → IsNextFor ended held (refusal false false fault.BadRequest)
bad-open ended look held is busy none = bad-says ended held none (λ more. busy-append held more (busy_bytes look held is busy))

pub bad-full : (ended : Bool) (look : Look) (held : List ℕ) → IsLookThrough look held → MAX_HEAD_BYTES ≤ length held
    → IsNextFor ended held (refusal false false fault.BadRequest)
bad-full ended look held is full = bad-says ended held (full-headless ended look held is full) (full-busy held full)

blank_end : (at : Place) → at ≡ place.Blank → is_end at ≡ true → ⊥
blank_end at same there = false≢true (sym (ap is_end same) ∙ there)

-- bytes that end where a head would hold more than line ends
busy_end : (held : List ℕ) (count : ℕ) → is_end (place_of (take count held)) ≡ true → list_all is_line_end held ≡ false
busy_end held count at_end =
    ⊎_elim
    (λ (blank : list_all is_line_end held ≡ true).
    let parts = sym (list_all-append is_line_end (take count held) (drop count held))
    ∙ ap (list_all is_line_end) (take-append-drop count held) ∙ blank
    in
    absurd (blank_end (place_of (take count held)) (place_of-blank (take count held) (and_parts _ _ parts).0) at_end))
    (λ (other : list_all is_line_end held ≡ false). other)
    (cases_Bool (list_all is_line_end held))

pub bad-end : (ended : Bool) (held : List ℕ) (count : ℕ) → is_end (place_of (take count held)) ≡ true → HasNoHeadFor ended held
    → IsNextFor ended held (refusal false false fault.BadRequest)
bad-end ended held count at_end none = bad-says ended held none (λ more. busy-append held more (busy_end held count at_end))

blank_bytes : (look : Look) (held : List ℕ) → IsLookThrough look held → is_blank look.place ≡ true → length held < MAX_HEAD_BYTES
    → list_all is_line_end held ≡ true
blank_bytes look held is blank few =
    let whole : take look.count held ≡ held = take_all look.count held (omega (arith, is.all, few)) in
    sym (ap (list_all is_line_end) whole) ∙ blank-place_of (take look.count held) (sym (ap is_blank is.is.place) ∙ blank)

pub blank-idle : (look : Look) (held : List ℕ) → IsLookThrough look held → is_blank look.place ≡ true → length held < MAX_HEAD_BYTES → IsIdle held
blank-idle look held is blank few = record { few = few; blank = blank_bytes look held is blank few }

pub blank-awaits : (look : Look) (held : List ℕ) → IsLookThrough look held → is_blank look.place ≡ true → length held < MAX_HEAD_BYTES → AwaitsHead false held
blank-awaits look held is blank few = record {
  open_ = refl;
  few = few;
  none = through-none look held is;
  may_come = inl (blank_bytes look held is blank few);
}

-- where no byte is held, a head may still come
pub nothing-awaits : AwaitsHead false []
nothing-awaits =
    let begun = nothing-begun [] in
    let through : IsLookThrough (record { count = 0; lines = 0; place = place.Blank }) [] =
    record { is = begun.look; all = refl; no_end = refl } in
    blank-awaits (record { count = 0; lines = 0; place = place.Blank }) [] through refl (omega arith)

-- enough of the bytes was given to the parser
pub tried-awaits : (look : Look) (tried : ℕ) (held : List ℕ) → IsLookThrough look held → IsTried tried look held → length held < MAX_HEAD_BYTES
    → look.count < 2 * tried → AwaitsHead false held
tried-awaits look tried held is given few half = record {
  open_ = refl;
  few = few;
  none = through-none look held is;
  may_come = ⊎_elim
      (λ (none : tried ≡ 0). absurd (omega (arith, none, half)))
      (λ (may : MayBecomeRequest (take tried held)).
      inr (record { count = tried; half = omega (arith, is.all, few, half); may = may }))
      given.may;
}

some_bytes : (l : List ℕ) → list_all is_line_end l ≡ false → 0 < length l
some_bytes [] none = absurd (false≢true (sym none))
some_bytes (b ∷ l) some = omega arith

-- all of it was given now
pub now-awaits : (look : Look) (held : List ℕ) → IsLookThrough look held → is_blank look.place ≡ false → length held < MAX_HEAD_BYTES
    → MayBecomeRequest held → AwaitsHead false held
now-awaits look held is busy few may = record {
  open_ = refl;
  few = few;
  none = through-none look held is;
  may_come = inr (record {
    count = length held;
    half = omega (arith, some_bytes held (busy_bytes look held is busy));
    may = subst MayBecomeRequest (sym (take_all (length held) held (omega arith))) may;
  });
}

pub begun-on : (look : Look) (tried : ℕ) (held : List ℕ) → IsLookThrough look held → IsTried tried look held → length held < MAX_HEAD_BYTES
    → IsBegun (record { look = look; tried = tried }) held
begun-on look tried held is given few = record { look = is.is; few = omega (arith, is.all, few); no_end = is.no_end; tried = given }

pub tried-all : (look : Look) (held : List ℕ) → IsLookThrough look held → length held < MAX_HEAD_BYTES → MayBecomeRequest held
    → IsTried look.count look held
tried-all look held is few may = record {
  before = omega arith;
  may = inr (subst MayBecomeRequest (sym (take_all look.count held (omega (arith, is.all, few)))) may);
}

-- what was read of the first bytes was read of more of them
pub reading-longer : (reading : Reading) (bytes : List ℕ) (m n : ℕ) → m ≤ n → IsReading reading (take m bytes) → IsReading reading (take n bytes)
reading-longer reading bytes m n longer is =
    let first = take m (take n bytes) in
    let rest = drop m (take n bytes) in
    let here : IsReading reading first = subst (λ (l : List ℕ). IsReading reading l) (sym (take-take m n bytes longer)) is in
    subst (λ (l : List ℕ). IsReading reading l) (take-append-drop m (take n bytes)) (reading-append reading first rest here)
