-- Bytes that are put one after the other.
use Rattle.std.proofs.Common.{ℕ, suc, ◌≡◌, ◌≤◌, ◌<◌, ◌+◌, Bool, true, List, [], ◌∷◌, ◌++◌, length, take, drop, get_or, map, Option, Result, Ok, Err, OnOk, refl, sym, ap, ◌∙◌, subst, arith, append_assoc, append-nil, length-append, add-one}
use Rattle.std.proofs.Math.Seq.{take-suc, drop-cons}
use Rattle.std.proofs.lemmas.List.{length-drop, length-map, length-take-le, map-append, take-append-drop, take_all, take_more}
use Rattle.std.specs.Io.KnownBytes.{append_known}
use Rattle.connection_laws.specs.Answers.{Response}
use Rattle.connection_laws.specs.declared.served.ServeFault.{ServeFault}
use Rattle.farm_entry.specs.declared.answer.Answer.{Answer}
use Rattle.http_requests.specs.declared.request.Request.{Request}
use Rattle.link_io.proofs.Told.{append_known-append}
use Rattle.common_types.specs.Prefix.{IsPrefix}
use Rattle.common_types.proofs.Prefixes.{IsPrefix-trans}
use Rattle.farm_http.specs.Bytes.{OutState, IsGathered, IsCutOff, OutSays, PutSays, farm_response, farm_responses, request_bytes, requests_bytes}

-- ---- bytes of several answers

-- the answers to more requests stand behind those before them
pub requests_bytes-append : (requests more : List Request) (responses others : List Response)
    → length requests ≡ length responses
    → requests_bytes (requests ++ more) (responses ++ others)
    ≡ requests_bytes requests responses ++ requests_bytes more others
requests_bytes-append [] more [] others same = refl
requests_bytes-append [] more (r ∷ responses) others same = absurd (omega arith)
requests_bytes-append (request ∷ requests) more [] others same = absurd (omega arith)
requests_bytes-append (request ∷ requests) more (r ∷ responses) others same =
    ap (λ (l : List ℕ). request_bytes request r ++ l) (requests_bytes-append requests more responses others
    (omega arith))
    ∙ sym (append_assoc (request_bytes request r) (requests_bytes requests responses) (requests_bytes more others))

-- what is put of them before one of the requests, with its answer, begins the whole
pub record IsOneMore (requests : List Request) (place : ℕ) (request : Request) (before : List Response) (r : Response) :
    Type 0 where
  pub next : requests_bytes (take (place + 1) requests) (before ++ r ∷ [])
      ≡ requests_bytes (take place requests) before ++ request_bytes request r
  pub begins : (others : List Response)
      → IsPrefix (requests_bytes (take place requests) before ++ request_bytes request r)
      (requests_bytes requests (before ++ r ∷ others))

pub one-more : (requests : List Request) (place : ℕ) (d : Request) (before : List Response) (r : Response)
    → place < length requests → length before ≡ place → IsOneMore requests place (get_or requests place d) before r
one-more requests place d before r inside count =
    let request = get_or requests place d in
    let front = take place requests in
    let rest = drop (suc place) requests in
    let long = length-take-le place requests (omega arith) in
    let same : length front ≡ length before = omega arith in
    let whole : requests ≡ front ++ request ∷ rest =
    sym (take-append-drop place requests) ∙ ap (λ (l : List Request). front ++ l) (drop-cons requests place d inside) in
    record {
      next =
          ap (λ (k : ℕ). requests_bytes (take k requests) (before ++ r ∷ [])) (add-one place)
          ∙ ap (λ (l : List Request). requests_bytes l (before ++ r ∷ [])) (take-suc requests place d inside)
          ∙ requests_bytes-append front (request ∷ []) before (r ∷ []) same
          ∙ ap (λ (l : List ℕ). requests_bytes front before ++ l) (append-nil (request_bytes request r));
      begins = λ others. (
        requests_bytes rest others,
        ap (λ (l : List Request). requests_bytes l (before ++ r ∷ others)) whole
            ∙ requests_bytes-append front (request ∷ rest) before (r ∷ others) same
            ∙ sym (append_assoc (requests_bytes front before) (request_bytes request r) (requests_bytes rest others)),
      );
    }

-- the answers of the farm with one more
pub farm_responses-append : (answers more : List Answer) (ws others : List Bool) → length answers ≡ length ws
    → farm_responses (answers ++ more) (ws ++ others) ≡ farm_responses answers ws ++ farm_responses more others
farm_responses-append [] more [] others same = refl
farm_responses-append [] more (w ∷ ws) others same = absurd (omega arith)
farm_responses-append (a ∷ answers) more [] others same = absurd (omega arith)
farm_responses-append (a ∷ answers) more (w ∷ ws) others same =
    ap (λ (l : List Response). farm_response a w ∷ l) (farm_responses-append answers more ws others (omega arith))

pub farm_responses-length : (answers : List Answer) (ws : List Bool) → length answers ≡ length ws
    → length (farm_responses answers ws) ≡ length ws
farm_responses-length [] [] same = refl
farm_responses-length [] (w ∷ ws) same = absurd (omega arith)
farm_responses-length (a ∷ answers) [] same = absurd (omega arith)
farm_responses-length (a ∷ answers) (w ∷ ws) same =
    ap (λ (n : ℕ). suc n) (farm_responses-length answers ws (omega arith))

-- ---- what is out and what is gathered

-- bytes put behind those before them
pub gathered-append : (first second : List ℕ) (old mid new : OutState) → IsGathered first old mid
    → IsGathered second mid new
    → IsGathered (first ++ second) old new
gathered-append first second old mid new a b = record {
  out = a.out ++ b.out;
  sent = sent-append old mid new a.out b.out a.sent b.sent;
  rest =
      held-append first second old mid a.out a.rest ∙ ap (λ (l : List ℕ). a.out ++ l) b.rest
      ∙ sym (append_assoc a.out b.out new.held);
}
  where
    sent-append : (old mid new : OutState) (out more : List ℕ) → mid.sent ≡ append_known old.sent out
        → new.sent ≡ append_known mid.sent more → new.sent ≡ append_known old.sent (out ++ more)
    sent-append old mid new out more p q =
        q ∙ ap (λ (t : Option (List ℕ)). append_known t more) p ∙ append_known-append old.sent out more

    held-append : (first second : List ℕ) (old mid : OutState) (out : List ℕ) → old.held ++ first ≡ out ++ mid.held
        → old.held ++ (first ++ second) ≡ out ++ (mid.held ++ second)
    held-append first second old mid out is =
        sym (append_assoc old.held first second) ∙ ap (λ (l : List ℕ). l ++ second) is
        ∙ append_assoc out mid.held second

-- a put that failed behind those before it
pub gathered-cut : (first second : List ℕ) (old mid new : OutState) → IsGathered first old mid → IsCutOff second mid new
    → IsCutOff (first ++ second) old new
gathered-cut first second old mid new a b = record {
  out = a.out ++ b.out;
  sent =
      b.sent ∙ ap (λ (t : Option (List ℕ)). append_known t b.out) a.sent ∙ append_known-append old.sent a.out b.out;
  begins = (
    b.begins.0,
    sym (append_assoc old.held first second) ∙ ap (λ (l : List ℕ). l ++ second) a.rest
        ∙ append_assoc a.out mid.held second ∙ ap (λ (l : List ℕ). a.out ++ l) b.begins.1
        ∙ sym (append_assoc a.out b.out b.begins.0),
  );
}

-- it failed before more bytes too
pub cut-more : (first all : List ℕ) (old new : OutState) → IsPrefix first all → IsCutOff first old new
    → IsCutOff all old new
cut-more first all old new p a = record {
  out = a.out;
  sent = a.sent;
  begins = IsPrefix-trans a.out (old.held ++ first) (old.held ++ all) a.begins
      (p.0, ap (λ (l : List ℕ). old.held ++ l) p.1 ∙ sym (append_assoc old.held first p.0));
}

-- what is said of an answer that is a fault
pub cut-says : {T : Type 0} (all : List ℕ) (old new : OutState) (r : Result T ServeFault) (f : ServeFault) → r ≡ Err f
    → IsCutOff all old new → OutSays all old new r
cut-says {T} all old new r f is a = subst (λ (x : Result T ServeFault). OutSays all old new x) (sym is) a

-- where nothing was gathered at first, and nothing is at the end, all was put, or a part
pub put-all : (all : List ℕ) (old new : OutState) → IsGathered all old new → old.held ≡ [] → new.held ≡ []
    → new.sent ≡ append_known old.sent all
put-all all old new a none empty =
    a.sent
    ∙ ap (λ (l : List ℕ). append_known old.sent l)
    (sym (append-nil a.out) ∙ ap (λ (l : List ℕ). a.out ++ l) (sym empty) ∙ sym a.rest
    ∙ ap (λ (l : List ℕ). l ++ all) none)

pub put-part : (all : List ℕ) (old new : OutState) → IsCutOff all old new → old.held ≡ []
    → (part : List ℕ) × IsPrefix part all × (new.sent ≡ append_known old.sent part)
put-part all old new a none =
    (a.out, subst (λ (l : List ℕ). IsPrefix a.out (l ++ all)) none a.begins, a.sent)

-- a fault after which a part was put
pub cut-put : {T : Type 0} (all : List ℕ) (old new : OutState) (r : Result T ServeFault) (f : ServeFault) → r ≡ Err f
    → IsCutOff all old new → old.held ≡ [] → PutSays all old.sent new.sent r
cut-put {T} all old new r f is a none =
    subst (λ (x : Result T ServeFault). PutSays all old.sent new.sent x) (sym is) (put-part all old new a none)

-- all is gathered, and then put out
pub puts-out : {T : Type 0} (all : List ℕ) (old mid new : OutState) (r : Result T ServeFault) → IsGathered all old mid
    → OutSays [] mid new r → old.held ≡ [] → OnOk r (new.held ≡ []) → PutSays all old.sent new.sent r
puts-out all old mid new (Ok done) a b none empty =
    let both = gathered-append all [] old mid new a b in
    put-all all old new (subst (λ (l : List ℕ). IsGathered l old new) (append-nil all) both) none empty
puts-out all old mid new (Err f) a b none empty =
    let both = gathered-cut all [] old mid new a b in
    put-part all old new (subst (λ (l : List ℕ). IsCutOff l old new) (append-nil all) both) none

-- ---- one answer

-- what is put of a list of bytes begins it
pub front-prefix : (n : ℕ) (bytes : List ℕ) → IsPrefix (take n bytes) bytes
front-prefix n bytes = (drop n bytes, sym (take-append-drop n bytes))

-- what was gathered went out in part
pub cut-held : (n : ℕ) (old new : OutState) → new.sent ≡ append_known old.sent (take n old.held) → IsCutOff [] old new
cut-held n old new is = record {
  out = take n old.held;
  sent = is;
  begins = subst (λ (l : List ℕ). IsPrefix (take n old.held) l) (sym (append-nil old.held)) (front-prefix n old.held);
}

-- what was gathered went out, and then an answer by itself
pub put-itself : (all bytes first : List ℕ) (old mid new : OutState) → bytes ≡ all → first ≡ old.held
    → IsGathered [] (record { sent = old.sent; held = first }) mid → mid.held ≡ [] → new.held ≡ mid.held
    → new.sent ≡ append_known mid.sent bytes → IsGathered all old new
put-itself all bytes first old mid new same is a none kept put =
    let b : IsGathered all mid new = record {
      out = all;
      sent = put ∙ ap (λ (l : List ℕ). append_known mid.sent l) same;
      rest = ap (λ (l : List ℕ). l ++ all) none ∙ sym (append-nil all)
          ∙ ap (λ (l : List ℕ). all ++ l) (sym none ∙ sym kept);
    } in
    gathered-append [] all old mid new
    (subst (λ (l : List ℕ). IsGathered [] (record { sent = old.sent; held = l }) mid) is a) b

-- the same where that answer went out in part
pub cut-itself : (all bytes first : List ℕ) (n : ℕ) (old mid new : OutState) → bytes ≡ all → first ≡ old.held
    → IsGathered [] (record { sent = old.sent; held = first }) mid → mid.held ≡ []
    → new.sent ≡ append_known mid.sent (take n bytes) → IsCutOff all old new
cut-itself all bytes first n old mid new same is a none put =
    let b : IsCutOff all mid new = record {
      out = take n all;
      sent = put ∙ ap (λ (l : List ℕ). append_known mid.sent (take n l)) same;
      begins = subst (λ (l : List ℕ). IsPrefix (take n all) (l ++ all)) (sym none) (front-prefix n all);
    } in
    gathered-cut [] all old mid new
    (subst (λ (l : List ℕ). IsGathered [] (record { sent = old.sent; held = l }) mid) is a) b

-- ---- the same answer to each request

-- the same response to each
abbrev pub alike : Response → List Request → List Response
alike r requests = map (λ (_ : Request). r) requests

alike-more : (requests : List Request) (place : ℕ) (d : Request) (r : Response) → place < length requests
    → alike r (take (place + 1) requests) ≡ alike r (take place requests) ++ r ∷ []
alike-more requests place d r inside =
    ap (λ (l : List Request). alike r l) (take_more requests place d inside)
    ∙ map-append (λ (_ : Request). r) (take place requests) (get_or requests place d ∷ [])

alike-whole : (requests : List Request) (place : ℕ) (d : Request) (r : Response) → place < length requests
    → alike r requests ≡ alike r (take place requests) ++ r ∷ alike r (drop (suc place) requests)
alike-whole requests place d r inside =
    ap (λ (l : List Request). alike r l)
    (sym (take-append-drop place requests) ∙ ap (λ (l : List Request). take place requests ++ l)
    (drop-cons requests place d inside))
    ∙ map-append (λ (_ : Request). r) (take place requests) (get_or requests place d ∷ drop (suc place) requests)

alike-length : (requests : List Request) (place : ℕ) (r : Response) → place ≤ length requests
    → length (alike r (take place requests)) ≡ place
alike-length requests place r within =
    length-map (take place requests) (λ (_ : Request). r) ∙ length-take-le place requests within

module _ (requests : List Request) (place : ℕ) (r : Response) (old mid : OutState) where
  -- so many answers are gathered, and one more
  pub alike-step : (d : Request) (new : OutState) → place < length requests
      → IsGathered (requests_bytes (take place requests) (alike r (take place requests))) old mid
      → IsGathered (request_bytes (get_or requests place d) r) mid new
      → IsGathered (requests_bytes (take (place + 1) requests) (alike r (take (place + 1) requests))) old new
  alike-step d new inside a b =
      let before = alike r (take place requests) in
      let one = one-more requests place d before r inside (alike-length requests place r (omega arith)) in
      let all : requests_bytes (take (place + 1) requests) (alike r (take (place + 1) requests))
      ≡ requests_bytes (take place requests) before ++ request_bytes (get_or requests place d) r =
      ap (λ (l : List Response). requests_bytes (take (place + 1) requests) l) (alike-more requests place d r inside)
      ∙ one.next in
      subst (λ (l : List ℕ). IsGathered l old new) (sym all)
      (gathered-append (requests_bytes (take place requests) before) (request_bytes (get_or requests place d) r) old mid
      new a b)

  -- or it was cut off
  pub alike-stop : (d : Request) (new : OutState) → place < length requests
      → IsGathered (requests_bytes (take place requests) (alike r (take place requests))) old mid
      → IsCutOff (request_bytes (get_or requests place d) r) mid new
      → IsCutOff (requests_bytes requests (alike r requests)) old new
  alike-stop d new inside a b =
      let before = alike r (take place requests) in
      let one = one-more requests place d before r inside (alike-length requests place r (omega arith)) in
      subst (λ (l : List Response). IsCutOff (requests_bytes requests l) old new)
      (sym (alike-whole requests place d r inside))
      (cut-more _ (requests_bytes requests (before ++ r ∷ alike r (drop (suc place) requests))) old new
      (one.begins (alike r (drop (suc place) requests)))
      (gathered-cut (requests_bytes (take place requests) before) (request_bytes (get_or requests place d) r) old mid
      new a b))

  -- all answers are gathered
  pub alike-all : length requests ≤ place
      → IsGathered (requests_bytes (take place requests) (alike r (take place requests))) old mid
      → IsGathered (requests_bytes requests (alike r requests)) old mid
  alike-all past a =
      subst (λ (l : List Request). IsGathered (requests_bytes l (alike r l)) old mid) (take_all place requests past) a

-- ---- the answers of the farm

-- so many answers are gathered, each with its text where there was memory for it
pub record AreGathered (requests : List Request) (answers : List Answer) (place : ℕ) (old new : OutState) : Type 0 where
  pub written : List Bool
  pub count : length written ≡ place
  pub gathered : IsGathered (requests_bytes (take place requests) (farm_responses (take place answers) written)) old new

-- all were gathered or put, or a part
pub record AreCutOff (requests : List Request) (answers : List Answer) (old new : OutState) : Type 0 where
  pub written : List Bool
  pub count : length written ≡ length answers
  pub cut : IsCutOff (requests_bytes requests (farm_responses answers written)) old new

module _ (requests : List Request) (answers : List Answer) (place : ℕ) (old mid : OutState)
    (same : length answers ≡ length requests) where
  taken-length : (written : List Bool) → length written ≡ place → place ≤ length requests
      → length (take place answers) ≡ length written
  taken-length written count within = length-take-le place answers (omega arith) ∙ sym count

  pub answers-step : (d : Request) (e : Answer) (w : Bool) (new : OutState) → e ≡ get_or answers place e
      → place < length requests
      → AreGathered requests answers place old mid
      → IsGathered (request_bytes (get_or requests place d) (farm_response e w)) mid new
      → AreGathered requests answers (place + 1) old new
  answers-step d e w new at inside a b =
      let r = farm_response e w in
      let before = farm_responses (take place answers) a.written in
      let long = taken-length a.written a.count (omega arith) in
      let one = one-more requests place d before r inside
      (farm_responses-length (take place answers) a.written long ∙ a.count) in
      let there : place < length answers = omega arith in
      let more : farm_responses (take (place + 1) answers) (a.written ++ w ∷ []) ≡ before ++ r ∷ [] =
      ap (λ (l : List Answer). farm_responses l (a.written ++ w ∷ [])) (take_more answers place e there)
      ∙ farm_responses-append (take place answers) (get_or answers place e ∷ []) a.written (w ∷ []) long
      ∙ ap (λ (x : Answer). before ++ farm_response x w ∷ []) (sym at) in
      let all = ap (λ (l : List Response). requests_bytes (take (place + 1) requests) l) more ∙ one.next in
      let count = a.count in
      record {
        written = a.written ++ w ∷ [];
        count = omega (arith, length-append a.written (w ∷ []));
        gathered =
            subst (λ (l : List ℕ). IsGathered l old new) (sym all)
            (gathered-append (requests_bytes (take place requests) before) (request_bytes (get_or requests place d) r)
            old mid new a.gathered b);
      }

  pub answers-stop : (d : Request) (e : Answer) (w : Bool) (new : OutState) → e ≡ get_or answers place e
      → place < length requests
      → AreGathered requests answers place old mid
      → IsCutOff (request_bytes (get_or requests place d) (farm_response e w)) mid new
      → AreCutOff requests answers old new
  answers-stop d e w new at inside a b =
      let r = farm_response e w in
      let before = farm_responses (take place answers) a.written in
      let long = taken-length a.written a.count (omega arith) in
      let one = one-more requests place d before r inside
      (farm_responses-length (take place answers) a.written long ∙ a.count) in
      let there : place < length answers = omega arith in
      let rest = drop (suc place) answers in
      let others = map (λ (_ : Answer). true) rest in
      let whole : answers ≡ take place answers ++ get_or answers place e ∷ rest =
      sym (take-append-drop place answers) ∙ ap (λ (l : List Answer). take place answers ++ l)
      (drop-cons answers place e there) in
      let said : farm_responses answers (a.written ++ w ∷ others) ≡ before ++ r ∷ farm_responses rest others =
      ap (λ (l : List Answer). farm_responses l (a.written ++ w ∷ others)) whole
      ∙ farm_responses-append (take place answers) (get_or answers place e ∷ rest) a.written (w ∷ others) long
      ∙ ap (λ (x : Answer). before ++ farm_response x w ∷ farm_responses rest others) (sym at) in
      let count = a.count in
      record {
        written = a.written ++ w ∷ others;
        count =
            omega (
              arith,
              length-append a.written (w ∷ others),
              length-map rest (λ (_ : Answer). true),
              length-drop (suc place) answers,
            );
        cut =
            subst (λ (l : List Response). IsCutOff (requests_bytes requests l) old new) (sym said)
            (cut-more _ (requests_bytes requests (before ++ r ∷ farm_responses rest others)) old new
            (one.begins (farm_responses rest others))
            (gathered-cut (requests_bytes (take place requests) before) (request_bytes (get_or requests place d) r) old
            mid new a.gathered b));
      }

  -- all were gathered and then put out
  pub answers-out : {T : Type 0} (new : OutState) (result : Result T ServeFault) → length requests ≤ place
      → place ≤ length requests
      → AreGathered requests answers place old mid → OutSays [] mid new result → old.held ≡ []
      → OnOk result (new.held ≡ [])
      → (written : List Bool) × (length written ≡ length answers)
      × PutSays (requests_bytes requests (farm_responses answers written)) old.sent new.sent result
  answers-out new result past within a b none empty =
      let count = a.count in
      let all : IsGathered (requests_bytes requests (farm_responses answers a.written)) old mid =
      subst (λ (l : List Request). IsGathered (requests_bytes l (farm_responses answers a.written)) old mid)
      (take_all place requests past)
      (subst (λ (l : List Answer). IsGathered (requests_bytes (take place requests) (farm_responses l a.written)) old
      mid) (take_all place answers (omega arith)) a.gathered) in
      (a.written, omega arith, puts-out _ old mid new result all b none empty)

-- a fault while they are put
pub answers-cut : {T : Type 0} (requests : List Request) (answers : List Answer) (old new : OutState)
    (result : Result T ServeFault)
    (f : ServeFault) → result ≡ Err f → AreCutOff requests answers old new → old.held ≡ []
    → (written : List Bool) × (length written ≡ length answers)
    × PutSays (requests_bytes requests (farm_responses answers written)) old.sent new.sent result
answers-cut requests answers old new result f is a none = (
  a.written,
  a.count,
  cut-put (requests_bytes requests (farm_responses answers a.written)) old new result f is a.cut
      none,
)
