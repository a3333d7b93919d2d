-- Heads and whole responses at the front of bytes, and of longer ones.
use Rattle.std.proofs.Common.{◌≡◌, ◌+◌, ◌≤◌, ℕ, zero, suc, true, false, List, [], ◌∷◌, ◌++◌, length, take, drop, length-append, refl, sym, ap, subst, ◌∙◌, arith}
use Rattle.std.proofs.lemmas.List.{drop-append-le, take-append-le}
use Rattle.std.proofs.lemmas.Option.{same_Some}
use Rattle.httparse.specs.Grammar.{ReadsResponse, ResponseHead, print_blank, print_end, print_reason, print_response, print_section, print_version, status_code}
use Rattle.httparse.proofs.GrammarLemmas.{ReadsResponse-append, print_response-append, response_unique}
use Rattle.http_exchange.specs.Framing.{body_length}
use Rattle.http_exchange.specs.Whole.{HasHead, IsFinal, IsResponse, IsWhole, head_size, is_interim}
use Rattle.http_words.specs.declared.limits.TheConstants.{MAX_HEAD_BYTES}

-- the front of longer bytes begins with the front of these
pub front-more : (n : ℕ) (xs ys : List ℕ) → (rest : List ℕ) × (take n (xs ++ ys) ≡ take n xs ++ rest)
front-more zero xs ys = ([], refl)
front-more (suc n) [] ys = (take (suc n) ys, refl)
front-more (suc n) (x ∷ xs) ys = let more = front-more n xs ys in (more.0, ap (λ (l : List ℕ). x ∷ l) more.1)

pub take-short : {X : Type 0} (n : ℕ) (xs : List X) → length (take n xs) ≤ length xs
take-short zero xs = omega arith
take-short (suc n) [] = omega arith
take-short (suc n) (x ∷ xs) = let rest = take-short n xs in omega (arith, rest)

pub take-few : {X : Type 0} (n : ℕ) (xs : List X) → length (take n xs) ≤ n
take-few zero xs = omega arith
take-few (suc n) [] = omega arith
take-few (suc n) (x ∷ xs) = let rest = take-few n xs in omega (arith, rest)

pub HasHead-more : (held more : List ℕ) (h : ResponseHead) → HasHead held h → HasHead (held ++ more) h
HasHead-more held more h has =
    let front = front-more MAX_HEAD_BYTES held more in
    record {
      rest = has.rest ++ front.0;
      reads = subst (λ (b : List ℕ). ReadsResponse b h (has.rest ++ front.0)) (sym front.1)
          (ReadsResponse-append (take MAX_HEAD_BYTES held) h has.rest front.0 has.reads);
      few_fields = has.few_fields;
    }

pub HasHead-same : (held : List ℕ) (h k : ResponseHead) → HasHead held h → HasHead held k → h ≡ k
HasHead-same held h k one other = (response_unique (take MAX_HEAD_BYTES held) h k one.rest other.rest one.reads other.reads).0

pub head-within : (held : List ℕ) (h : ResponseHead) → HasHead held h → head_size h ≤ length held
head-within held h has =
    let whole : length (take MAX_HEAD_BYTES held) ≡ length (print_response h ++ has.rest) = ap length has.reads.1 in
    let parts : length (print_response h ++ has.rest) ≡ length (print_response h) + length has.rest =
    length-append (print_response h) has.rest in
    let few : length (take MAX_HEAD_BYTES held) ≤ length held = take-short MAX_HEAD_BYTES held in
    omega (arith, whole, parts, few)

long : (a b c : List ℕ) → 1 ≤ length (a ++ (b ++ 32 ∷ c))
long a b c =
    let first : length (a ++ (b ++ 32 ∷ c)) ≡ length a + length (b ++ 32 ∷ c) = length-append a (b ++ 32 ∷ c) in
    let second : length (b ++ 32 ∷ c) ≡ length b + length (32 ∷ c) = length-append b (32 ∷ c) in
    omega (arith, first, second)

pub head-some : (h : ResponseHead) → 1 ≤ head_size h
head-some h =
    let whole = ap length (print_response-append h []) in
    let parts : length (print_response h ++ []) ≡ length (print_response h) + 0 = length-append (print_response h) [] in
    let some =
    long (print_blank h.blank) (print_version h.minor)
    (h.digits ++ (print_reason h.reason ++ (print_end h.line_end ++ (print_section h.fields h.last ++ [])))) in
    omega (arith, subst (λ (n : ℕ). 1 ≤ n) (sym whole) some, parts)

-- Whole responses.

pub response-more : (held more : List ℕ) (interims : List ResponseHead) (h : ResponseHead) (body : List ℕ) →
    IsResponse held interims h body → IsResponse (held ++ more) interims h body
response-more held more [] h body is =
    let within = head-within held h is.has in
    let behind : drop (head_size h) (held ++ more) ≡ drop (head_size h) held ++ more =
    drop-append-le (head_size h) held more within in
    let longer : length (drop (head_size h) held ++ more) ≡ length (drop (head_size h) held) + length more =
    length-append (drop (head_size h) held) more in
    let lengths : length (drop (head_size h) (held ++ more)) ≡ length (drop (head_size h) held ++ more) = ap length behind in
    let there : is.len ≤ length (drop (head_size h) held) = is.there in
    record {
      has = HasHead-more held more h is.has;
      final = is.final;
      len = is.len;
      framed = is.framed;
      there = omega (arith, longer, lengths, there);
      body_is = is.body_is ∙ sym (take-append-le is.len (drop (head_size h) held) more is.there)
          ∙ ap (take is.len) (sym behind);
    }
response-more held more (k ∷ interims) h body is = (
  HasHead-more held more k is.0,
  is.1,
  subst (λ (l : List ℕ). IsResponse l interims h body)
      (sym (drop-append-le (head_size k) held more (head-within held k is.0)))
      (response-more (drop (head_size k) held) more interims h body is.2),
)

pub whole-more : (held more : List ℕ) (status : ℕ) (body : List ℕ) → IsWhole held status body → IsWhole (held ++ more) status body
whole-more held more status body is = record {
  interims = is.interims;
  head = is.head;
  is = response-more held more is.interims is.head body is.is;
  status_is = is.status_is;
}

-- no head is an interim one and a final one
mixed : (held : List ℕ) (h k : ResponseHead) → HasHead held h → HasHead held k → is_interim h ≡ false → is_interim k ≡ true → ⊥
mixed held h k one other final interim =
    let both : true ≡ false = sym interim ∙ ap is_interim (sym (HasHead-same held h k one other)) ∙ final in absurd cc

pub final-same : (held : List ℕ) (h k : ResponseHead) (body text : List ℕ) → IsFinal held h body → IsFinal held k text →
    (h ≡ k) × (body ≡ text)
final-same held h k body text one other =
    let heads : h ≡ k = HasHead-same held h k one.has other.has in
    let lens : one.len ≡ other.len =
    same_Some one.len other.len (sym one.framed ∙ ap body_length heads ∙ other.framed) in (
      heads,
      one.body_is ∙ ap (λ (x : ℕ). take x (drop (head_size h) held)) lens
          ∙ ap (λ (x : ResponseHead). take other.len (drop (head_size x) held)) heads ∙ sym other.body_is,
    )

pub response-same : (held : List ℕ) (interims others : List ResponseHead) (h k : ResponseHead) (body text : List ℕ) →
    IsResponse held interims h body → IsResponse held others k text → (h ≡ k) × (body ≡ text)
response-same held [] [] h k body text one other = final-same held h k body text one other
response-same held [] (j ∷ others) h k body text one other =
    absurd (mixed held h j one.has other.0 one.final other.1)
response-same held (i ∷ interims) [] h k body text one other =
    absurd (mixed held k i other.has one.0 other.final one.1)
response-same held (i ∷ interims) (j ∷ others) h k body text one other =
    let same : i ≡ j = HasHead-same held i j one.0 other.0 in
    response-same (drop (head_size i) held) interims others h k body text one.2
    (subst (λ (x : ResponseHead). IsResponse (drop (head_size x) held) others k text) (sym same) other.2)

pub whole-same : (held : List ℕ) (status other : ℕ) (body text : List ℕ) → IsWhole held status body → IsWhole held other text →
    (status ≡ other) × (body ≡ text)
whole-same held status other body text one two =
    let same = response-same held one.interims two.interims one.head two.head body text one.is two.is in
    (one.status_is ∙ ap status_code same.0 ∙ sym two.status_is, same.1)

-- a whole response begins with a head
pub first-head : (held : List ℕ) (interims : List ResponseHead) (h : ResponseHead) (body : List ℕ) → IsResponse held interims h body →
    (k : ResponseHead) × HasHead held k
first-head held [] h body is = (h, is.has)
first-head held (k ∷ interims) h body is = (k, is.0)
