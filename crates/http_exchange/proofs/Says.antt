-- What may be said of bytes by the head with which they begin, or where they begin with none.
use Rattle.std.proofs.Common.{◌≡◌, ◌+◌, ◌-◌, ◌<◌, ◌≤◌, ℕ, Bool, true, false, List, [], ◌∷◌, ◌++◌, length, map, take, drop, nat_lt, All, le_trans, slice_range, length-append, append-nil, if◌then◌else◌, Option, Some, None, Ok, refl, sym, ap, subst, ◌∙◌, inl, inr, arith}
use Rattle.std.proofs.lemmas.Bool.Decides.{nat_tests}
use Rattle.std.proofs.lemmas.List.{drop-append-le, length-drop, length-map, take-append-le, take_all}
use Rattle.std.proofs.lemmas.List.Elements.{All-weaker}
use Rattle.std.proofs.lemmas.Option.{none-some, same_Some}
use Rattle.httparse.specs.Grammar.{HasNoResponse, MayBecomeResponse, ReadsResponse, ResponseHead, status_code}
use Rattle.httparse.specs.Outcome.{IfComplete, OnPartial}
use Rattle.httparse.specs.Spans.{AreFieldsAt, IsHeaderWithin, IsResponseOf, ResponseOverflows, header_bytes, name_and_value}
use Rattle.httparse.specs.declared.Error.{Error}
use Rattle.httparse.specs.declared.Status.{Status}
use Rattle.httparse.specs.declared.Status.TheVariants.{Complete, Partial}
use Rattle.httparse.specs.declared.spans.HeaderSpan.{HeaderSpan}
use Rattle.httparse.specs.declared.spans.ResponseSpans.{ResponseSpans}
use Rattle.http_requests.specs.Lengths.{stated_length}
use Rattle.http_exchange.specs.Framing.{body_length, length_by}
use Rattle.http_exchange.specs.Reading.{IsBefore, IsUnfinished, Says, behind_final, progress_of}
use Rattle.http_exchange.specs.Whole.{HasHead, IsFinal, IsResponse, IsWhole, head_size, is_interim}
use Rattle.http_words.specs.declared.limits.TheConstants.{MAX_FIELDS, MAX_HEAD_BYTES}
use Rattle.http_exchange.specs.declared.progress.ResponseProgress.{ResponseProgress}
use Rattle.http_exchange.specs.declared.progress.ResponseProgress.TheVariants.{Interim, More, Never, Whole}
use Rattle.http_exchange.proofs.Heads.{HasHead-more, HasHead-same, first-head, front-more, head-some, head-within, take-short, whole-more}

-- Bytes that begin with a head.

-- behind an interim head the response begins
interim-same : (bytes : List ℕ) (h : ResponseHead) (status : ℕ) (body : List ℕ) → HasHead bytes h → is_interim h ≡ true →
    (interims : List ResponseHead) (k : ResponseHead) → IsResponse bytes interims k body → status ≡ status_code k →
    IsWhole (drop (head_size h) bytes) status body
interim-same bytes h status body has interim [] k is status_is =
    let both : true ≡ false = sym interim ∙ ap is_interim (HasHead-same bytes h k has is.has) ∙ is.final in absurd cc
interim-same bytes h status body has interim (j ∷ interims) k is status_is = record {
  interims = interims;
  head = k;
  is = subst (λ (x : ResponseHead). IsResponse (drop (head_size x) bytes) interims k body)
      (HasHead-same bytes j h is.0 has) is.2;
  status_is = status_is;
}

before-interim : (held : List ℕ) (h : ResponseHead) → HasHead held h → is_interim h ≡ true → IsBefore held (head_size h)
before-interim held h has interim =
    let within = head-within held h has in
    record {
      some = head-some h;
      within = within;
      same = λ more status body.
          let behind : drop (head_size h) (held ++ more) ≡ drop (head_size h) held ++ more =
          drop-append-le (head_size h) held more within in
          let longer = HasHead-more held more h has in (
            (λ (is : IsWhole (held ++ more) status body).
                subst (λ (l : List ℕ). IsWhole l status body) behind
                (interim-same (held ++ more) h status body longer interim is.interims is.head is.is is.status_is)),
            (λ (is : IsWhole (drop (head_size h) held ++ more) status body). record {
              interims = h ∷ is.interims;
              head = is.head;
              is = (
                longer,
                interim,
                subst (λ (l : List ℕ). IsResponse l is.interims is.head body) (sym behind) is.is,
              );
              status_is = is.status_is;
            }),
          );
    }

-- a whole response that begins with a final head is of that head
final-of : (bytes : List ℕ) (h : ResponseHead) (body : List ℕ) → HasHead bytes h → is_interim h ≡ false →
    (interims : List ResponseHead) (k : ResponseHead) → IsResponse bytes interims k body → IsFinal bytes h body
final-of bytes h body has final [] k is = subst (λ (x : ResponseHead). IsFinal bytes x body) (HasHead-same bytes k h is.has has) is
final-of bytes h body has final (j ∷ interims) k is =
    let both : true ≡ false = sym is.1 ∙ ap is_interim (HasHead-same bytes j h is.0 has) ∙ final in absurd cc

unframed : (held : List ℕ) (h : ResponseHead) → HasHead held h → is_interim h ≡ false → body_length h ≡ None →
    (more : List ℕ) (status : ℕ) (body : List ℕ) → ¬ IsWhole (held ++ more) status body
unframed held h has final none more status body is =
    let of_h = final-of (held ++ more) h body (HasHead-more held more h has) final is.interims is.head is.is in
    none-some of_h.len (sym none ∙ of_h.framed)

cut : (held : List ℕ) (h : ResponseHead) (len : ℕ) → HasHead held h → is_interim h ≡ false → body_length h ≡ Some len →
    length held < head_size h + len → IsUnfinished held (head_size h + len)
cut held h len has final framed short = record {
  ahead = short;
  none = λ more status body few is.
      let has_more = HasHead-more held more h has in
      let of_h = final-of (held ++ more) h body has_more final is.interims is.head is.is in
      let lens : len ≡ of_h.len = same_Some len of_h.len (sym framed ∙ of_h.framed) in
      let there : of_h.len ≤ length (drop (head_size h) (held ++ more)) = of_h.there in
      let behind : length (drop (head_size h) (held ++ more)) ≡ length (held ++ more) - head_size h =
      length-drop (head_size h) (held ++ more) in
      let both : length (held ++ more) ≡ length held + length more = length-append held more in
      let within = head-within held h has in
      absurd (omega (arith, lens, there, behind, both, within, few));
  begun = inr (record { head = h; has = has; final = final; len = len; framed = framed; short = short });
}

whole : (held : List ℕ) (h : ResponseHead) (len : ℕ) → HasHead held h → is_interim h ≡ false → body_length h ≡ Some len →
    head_size h + len ≤ length held → (more : List ℕ) →
    IsWhole (held ++ more) (status_code h) (slice_range held (head_size h) (head_size h + len))
whole held h len has final framed enough more =
    let behind : length (drop (head_size h) held) ≡ length held - head_size h = length-drop (head_size h) held in
    let count : head_size h + len - head_size h ≡ len = omega arith in
    whole-more held more (status_code h) (slice_range held (head_size h) (head_size h + len)) (record {
      interims = [];
      head = h;
      is = record {
        has = has;
        final = final;
        len = len;
        framed = framed;
        there = omega (arith, behind, enough);
        body_is = ap (λ (n : ℕ). take n (drop (head_size h) held)) count;
      };
      status_is = refl;
    })

says-body : (held : List ℕ) (h : ResponseHead) (len : ℕ) → HasHead held h → is_interim h ≡ false → body_length h ≡ Some len →
    (b : Bool) → nat_lt (length held - head_size h) len ≡ b →
    Says held (if b then More (head_size h + len) else Whole (record { status = status_code h; body = head_size h; end = head_size h + len }))
says-body held h len has final framed true test =
    let within = head-within held h has in
    let short : length held - head_size h < len = grind (arith, nat_tests, test) in
    cut held h len has final framed (omega (arith, within, short))
says-body held h len has final framed false test =
    let within = head-within held h has in
    let there : len ≤ length held - head_size h = grind (arith, nat_tests, test) in
    let enough : head_size h + len ≤ length held = omega (arith, within, there) in
    (omega arith, enough, whole held h len has final framed enough)

says-final : (held : List ℕ) (h : ResponseHead) → HasHead held h → is_interim h ≡ false → (o : Option ℕ) → body_length h ≡ o →
    Says held (behind_final (status_code h) (head_size h) o (length held))
says-final held h has final None framed = unframed held h has final framed
says-final held h has final (Some len) framed = says-body held h len has final framed _ refl

says-by : (held : List ℕ) (h : ResponseHead) → HasHead held h → (b : Bool) → is_interim h ≡ b →
    Says held (if b then Interim (head_size h) else behind_final (status_code h) (head_size h) (body_length h) (length held))
says-by held h has true interim = before-interim held h has interim
says-by held h has false final = says-final held h has final (body_length h) refl

-- what stands at the front of bytes that begin with a head
pub says-head : (held : List ℕ) (h : ResponseHead) → HasHead held h →
    Says held (progress_of (status_code h) (head_size h) (body_length h) (length held))
says-head held h has = says-by held h has _ refl

-- Bytes that begin with no head.

-- no response is whole where no head stands at the front
headless : (bytes : List ℕ) → HasNoResponse (take MAX_HEAD_BYTES bytes) → (status : ℕ) (body : List ℕ) → ¬ IsWhole bytes status body
headless bytes none status body is =
    let first = first-head bytes is.interims is.head body is.is in none first.0 first.1.rest first.1.reads

no-more : (more : List ℕ) → length more < 1 → more ≡ []
no-more [] few = refl
no-more (x ∷ more) few = absurd (omega arith)

pub says-more : (held : List ℕ) → length held < MAX_HEAD_BYTES → HasNoResponse (take MAX_HEAD_BYTES held) →
    MayBecomeResponse (take MAX_HEAD_BYTES held) → (size : ℕ) → size ≡ length held + 1 → Says held (More size)
says-more held short none may size next = record {
  ahead = omega arith;
  none = λ more status body few.
      let nothing : more ≡ [] = no-more more (omega arith) in
      subst (λ (l : List ℕ). ¬ IsWhole l status body) (sym (ap (λ (l : List ℕ). held ++ l) nothing ∙ append-nil held))
      (headless held none status body);
  begun = inl (short, subst MayBecomeResponse (take_all MAX_HEAD_BYTES held (omega arith)) may);
}

pub says-full : (held : List ℕ) → MAX_HEAD_BYTES ≤ length held → HasNoResponse (take MAX_HEAD_BYTES held) → Says held Never
says-full held full none more status body is =
    headless (held ++ more)
    (subst HasNoResponse (sym (take-append-le MAX_HEAD_BYTES held more full)) none) status body is

pub says-never : (held : List ℕ) → ResponseOverflows MAX_FIELDS (take MAX_HEAD_BYTES held) → Says held Never
says-never held many more status body is =
    let first = first-head (held ++ more) is.interims is.head body is.is in
    let front = front-more MAX_HEAD_BYTES held more in
    let reads : ReadsResponse (take MAX_HEAD_BYTES held ++ front.0) first.0 first.1.rest =
    subst (λ (b : List ℕ). ReadsResponse b first.0 first.1.rest) front.1 first.1.reads in
    let few : length first.0.fields ≤ MAX_FIELDS = first.1.few_fields in
    let more_fields : MAX_FIELDS < length first.0.fields = many front.0 first.0 first.1.rest reads in
    absurd (omega (arith, few, more_fields))

-- What the parser answers.

pub complete-of : (s : Status ResponseSpans) (r : ResponseSpans) (P : ResponseSpans → Type 0) → s ≡ Complete r →
    IfComplete {E = Error} (Ok s) P → P r
complete-of s r P is all = subst (λ (x : Status ResponseSpans). IfComplete {E = Error} (Ok x) P) is all

pub partial-of : (s : Status ResponseSpans) (P : Type 0) → s ≡ Partial → OnPartial {E = Error} (Ok s) P → P
partial-of s P is all = subst (λ (x : Status ResponseSpans). OnPartial {E = Error} (Ok x) P) is all

pub fields-within : (n m : ℕ) (fields : List HeaderSpan) → n ≤ m → All (IsHeaderWithin n) fields → All (IsHeaderWithin m) fields
fields-within n m fields le all =
    All-weaker (IsHeaderWithin n) (IsHeaderWithin m)
    (λ field is. ((is.0.0, le_trans is.0.1 le), (is.1.0, le_trans is.1.1 le))) fields all

few-fields : (front : List ℕ) (spans : List HeaderSpan) (count : ℕ) (h : ResponseHead) → length spans ≡ MAX_FIELDS →
    AreFieldsAt front spans count h.fields → length h.fields ≤ MAX_FIELDS
few-fields front spans count h room are =
    let lengths : length (map (header_bytes front) (take count spans)) ≡ length (map name_and_value h.fields) = ap length are in
    let one : length (map (header_bytes front) (take count spans)) ≡ length (take count spans) =
    length-map (take count spans) (header_bytes front) in
    let other : length (map name_and_value h.fields) ≡ length h.fields = length-map h.fields name_and_value in
    let few : length (take count spans) ≤ length spans = take-short count spans in
    omega (arith, lengths, one, other, few, room)

-- a head that the parser found
pub says-found : (held front : List ℕ) (spans : List HeaderSpan) (r : ResponseSpans) → front ≡ take MAX_HEAD_BYTES held →
    length spans ≡ MAX_FIELDS → IsResponseOf front spans r → (fields : List HeaderSpan) → fields ≡ take r.headers spans →
    (p : ResponseProgress) →
    p ≡ progress_of r.code r.len (length_by (stated_length (map (header_bytes front) fields))) (length held) → Says held p
says-found held front spans r front_is room found fields taken p p_is =
    let h = found.0 in
    let at = found.1 in
    let has : HasHead held h = record {
      rest = drop r.len front;
      reads = subst (λ (b : List ℕ). ReadsResponse b h (drop r.len front)) front_is at.reads;
      few_fields = few-fields front spans r.headers h room at.fields;
    } in
    let n = length held in
    let texts : map (header_bytes front) fields ≡ map name_and_value h.fields =
    ap (map (header_bytes front)) taken ∙ at.fields in
    let same : progress_of r.code r.len (length_by (stated_length (map (header_bytes front) fields))) n
    ≡ progress_of (status_code h) (head_size h) (body_length h) n =
    ap (λ (x : ℕ). progress_of x r.len (length_by (stated_length (map (header_bytes front) fields))) n) at.code
    ∙ ap (λ (x : ℕ). progress_of (status_code h) x (length_by (stated_length (map (header_bytes front) fields))) n) at.len
    ∙ ap (λ (x : List (List ℕ × List ℕ)). progress_of (status_code h) (head_size h) (length_by (stated_length x)) n) texts in
    subst (λ (x : ResponseProgress). Says held x) (sym (p_is ∙ same)) (says-head held h has)
