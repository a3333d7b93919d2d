-- Items: there is one list of them, and those that don't close stay, whatever follows.
use Rattle.std.proofs.Common.{ℕ, ◌≡◌, ◌+◌, ◌<◌, ◌≤◌, inl, inr, Bool, true, false, List, [], ◌∷◌, ◌++◌, length, take, drop, refl, sym, ap, subst, ◌∙◌, Result, Ok, Err, length-append, length-drop, arith, nat_lt, ⊎_elim}
use Rattle.std.proofs.lemmas.Bool.{false≢true, ltb-false, lt-ltb, le-ltb, cases_Bool, cond-true, cond-false}
use Rattle.std.proofs.lemmas.List.{take-append-le, drop-append-le}
use Rattle.httparse.specs.Grammar.{RequestHead}
use Rattle.http_requests.specs.Framing.{is_head_method, wants_interim, closes_after}
use Rattle.http_requests.specs.Fields.{fields_of}
use Rattle.http_requests.specs.Routes.{endpoint_of}
use Rattle.http_requests.specs.Items.{Item, IsIdle, HasHead, IsRequest, IsNext, Items, End, closed, head_size, body_of, item_by, item_of, refused}
use Rattle.http_requests.specs.Laws.{IsSettled}
use Rattle.http_words.specs.declared.fault.Fault.{Fault}
use Rattle.http_words.specs.declared.fault.Fault.TheVariants as fault
use Rattle.http_requests.proofs.Heads.{HasHead-append, HasHead-unique, HasHead-size, HasHead-busy, head_size-some}

-- ---- one list

pub next-unique : (bytes : List ℕ) (a b : Item) → IsNext bytes a → IsNext bytes b → a ≡ b
next-unique bytes a b (inl x) (inl y) =
    let same = HasHead-unique bytes x.head y.head x.has y.has in
    x.item_is ∙ ap (λ (head : RequestHead). item_of head (drop (head_size head) bytes)) same ∙ sym y.item_is
next-unique bytes a b (inl x) (inr y) = absurd (y.none x.head x.has)
next-unique bytes a b (inr x) (inl y) = absurd (x.none y.head y.has)
next-unique bytes a b (inr x) (inr y) = x.item_is ∙ sym y.item_is

pub idle-alone : (bytes : List ℕ) (item : Item) → IsIdle bytes → IsNext bytes item → ⊥
idle-alone bytes item idle (inl x) = HasHead-busy bytes x.head x.has idle.blank
idle-alone bytes item idle (inr x) = x.busy idle

both_closed : (b : Bool) → b ≡ true → b ≡ false → ⊥
both_closed b shut opened = false≢true (sym opened ∙ shut)

pub items-unique : (bytes : List ℕ) (xs ys : List Item) (e f : End) → Items bytes xs e → Items bytes ys f → (xs ≡ ys) × (e ≡ f)
items-unique bytes [] [] e f x y = (refl, x.1 ∙ sym y.1)
items-unique bytes [] (b ∷ ys) e f x y = absurd (idle-alone bytes b x.0 y.0)
items-unique bytes (a ∷ xs) [] e f x y = absurd (idle-alone bytes a y.0 x.0)
items-unique bytes (a ∷ xs) (b ∷ ys) e f (p, inl x) (q, inl y) =
    let same = next-unique bytes a b p q in
    ((λ k. same k ∷ (x.1 ∙ sym y.1) k), x.2 ∙ sym y.2)
items-unique bytes (a ∷ xs) (b ∷ ys) e f (p, inl x) (q, inr y) =
    absurd (both_closed b.closes (ap (λ (i : Item). i.closes) (sym (next-unique bytes a b p q)) ∙ x.0) y.0)
items-unique bytes (a ∷ xs) (b ∷ ys) e f (p, inr x) (q, inl y) =
    absurd (both_closed a.closes (ap (λ (i : Item). i.closes) (next-unique bytes a b p q) ∙ y.0) x.0)
items-unique bytes (a ∷ xs) (b ∷ ys) e f (p, inr x) (q, inr y) =
    let same = next-unique bytes a b p q in
    let behind = subst (λ (i : Item). Items (drop i.size bytes) ys f) (sym same) y.1 in
    let rest = items-unique (drop a.size bytes) xs ys e f x.1 behind in
    ((λ k. same k ∷ rest.0 k), rest.1)

-- ---- what stays

-- an item by a body's length that doesn't close has its whole body
by-open : (head : RequestHead) (behind : List ℕ) (r : Result ℕ Fault) → (item_by head behind r).closes ≡ false
    → (len : ℕ) × (r ≡ Ok len) × (len ≤ length behind)
by-open head behind (Err cause) stays = absurd (false≢true (sym stays))
by-open head behind (Ok len) stays =
    ⊎_elim
    (λ (short : nat_lt (length behind) len ≡ true).
    let shut : true ≡ false = sym (ap (λ (i : Item). i.closes) (cond-true _ _ _ short)) ∙ stays in
    absurd (false≢true (sym shut)))
    (λ (whole : nat_lt (length behind) len ≡ false). (len, refl, ltb-false _ _ whole))
    (cases_Bool (nat_lt (length behind) len))

-- the item of a head with its whole body
unfoldable pub whole_item : RequestHead → ℕ → List ℕ → Item
whole_item head len behind = record {
  interim = wants_interim head.minor (fields_of head) len;
  withheld = is_head_method head.method;
  closes = closes_after head.minor (fields_of head);
  asks = endpoint_of head.method head.target;
  body = take len behind;
  size = head_size head + len;
}

whole_item-size : (head : RequestHead) (len : ℕ) (behind : List ℕ) → (whole_item head len behind).size ≡ head_size head + len
unfolding whole_item
whole_item-size head len behind = refl

pub item_of-whole : (head : RequestHead) (len : ℕ) (behind : List ℕ) → body_of head ≡ Ok len → len ≤ length behind
    → item_of head behind ≡ whole_item head len behind
unfolding item_of whole_item
item_of-whole head len behind is whole =
    ap (item_by head behind) is ∙ cond-false _ _ _ (le-ltb (length behind) len whole)

pub item_of-refused : (head : RequestHead) (behind : List ℕ) (f : Fault) → body_of head ≡ Err f
    → item_of head behind ≡ refused false (is_head_method head.method) f
unfolding item_of
item_of-refused head behind f is = ap (item_by head behind) is

pub item_of-cut : (head : RequestHead) (len : ℕ) (behind : List ℕ) → body_of head ≡ Ok len → length behind < len
    → item_of head behind ≡ refused (wants_interim head.minor (fields_of head) len) (is_head_method head.method) fault.BadRequest
unfolding item_of
item_of-cut head len behind is short =
    ap (item_by head behind) is ∙ cond-true _ _ _ (lt-ltb (length behind) len short)

whole_item-append : (head : RequestHead) (len : ℕ) (behind more : List ℕ) → len ≤ length behind
    → whole_item head len (behind ++ more) ≡ whole_item head len behind
unfolding whole_item
whole_item-append head len behind more whole =
    let made : List ℕ → Item = λ body. record {
      interim = wants_interim head.minor (fields_of head) len;
      withheld = is_head_method head.method;
      closes = closes_after head.minor (fields_of head);
      asks = endpoint_of head.method head.target;
      body = body;
      size = head_size head + len;
    } in
    ap made (take-append-le len behind more whole)

-- a head's item is the same whatever follows, where its body is whole
pub whole-append : (bytes more : List ℕ) (head : RequestHead) (len : ℕ) → HasHead bytes head → body_of head ≡ Ok len
    → head_size head + len ≤ length bytes
    → item_of head (drop (head_size head) (bytes ++ more)) ≡ whole_item head len (drop (head_size head) bytes)
whole-append bytes more head len has is whole =
    let size = head_size head in
    let behind = drop size bytes in
    let room : len ≤ length behind = omega (arith, length-drop size bytes, (HasHead-size bytes head has).1) in
    let longer : len ≤ length (behind ++ more) = omega (arith, length-append behind more) in
    ap (item_of head) (drop-append-le size bytes more (HasHead-size bytes head has).1)
    ∙ item_of-whole head len (behind ++ more) is longer
    ∙ whole_item-append head len behind more room

open-body : (bytes : List ℕ) (item : Item) (x : IsRequest bytes item) → item.closes ≡ false
    → (len : ℕ) × (body_of x.head ≡ Ok len) × (len ≤ length (drop (head_size x.head) bytes))
unfolding item_of
open-body bytes item x stays =
    by-open x.head (drop (head_size x.head) bytes) (body_of x.head) (sym (ap (λ (i : Item). i.closes) x.item_is) ∙ stays)

-- an item that doesn't close stays, and lies in the bytes
pub open-append : (bytes more : List ℕ) (item : Item) → IsNext bytes item → item.closes ≡ false
    → IsNext (bytes ++ more) item × (item.size ≤ length bytes)
open-append bytes more item (inl x) stays =
    let size = head_size x.head in
    let within = (HasHead-size bytes x.head x.has).1 in
    let body = open-body bytes item x stays in
    let room : size + body.0 ≤ length bytes = omega (arith, length-drop size bytes, within, body.2) in
    let here = x.item_is ∙ item_of-whole x.head body.0 (drop size bytes) body.1 body.2 in
    let there = whole-append bytes more x.head body.0 x.has body.1 room in
    let sizes : item.size ≡ size + body.0 = ap (λ (i : Item). i.size) here ∙ whole_item-size x.head body.0 (drop size bytes) in (
      inl (record { head = x.head; has = HasHead-append bytes more x.head x.has; item_is = here ∙ sym there }),
      omega (arith, sizes, room),
    )
open-append bytes more item (inr x) stays = absurd (both_closed item.closes (ap (λ (i : Item). i.closes) x.item_is) stays)

-- an item that doesn't close takes a byte or more
pub open-some : (bytes : List ℕ) (item : Item) → IsNext bytes item → item.closes ≡ false → 0 < item.size
open-some bytes item (inl x) stays =
    let body = open-body bytes item x stays in
    let here = x.item_is ∙ item_of-whole x.head body.0 (drop (head_size x.head) bytes) body.1 body.2 in
    let sizes : item.size ≡ head_size x.head + body.0 =
    ap (λ (i : Item). i.size) here ∙ whole_item-size x.head body.0 (drop (head_size x.head) bytes)
    in
    omega (arith, sizes, head_size-some x.head)
open-some bytes item (inr x) stays = absurd (both_closed item.closes (ap (λ (i : Item). i.closes) x.item_is) stays)

-- The items of longer bytes are the same, where the one that closes is.
pub items-append : (bytes more : List ℕ) (items : List Item) → Items bytes items closed → IsSettled bytes items → Items (bytes ++ more) items closed
items-append bytes more [] x settled = absurd (settled)
items-append bytes more (item ∷ items) (next, inl shut) settled = (settled.0 shut.0 more, inl shut)
items-append bytes more (item ∷ items) (next, inr opened) settled =
    let grown = open-append bytes more item next opened.0 in
    let behind = items-append (drop item.size bytes) more items opened.1 (settled.1 opened.0) in
    (grown.0, inr (opened.0, subst (λ (l : List ℕ). Items l items closed) (sym (drop-append-le item.size bytes more grown.1)) behind))
