-- The request at the front of the bytes held, and its interim answer.
use Rattle.std.proofs.Common.{ℕ, ◌≡◌, ◌||◌, inl, inr, Bool, true, false, if◌then◌else◌, List, [], ◌++◌, length, drop, nat_lt, Result, Ok, Err, refl, sym, ap, ◌∙◌, subst, append-nil}
use Rattle.std.proofs.lemmas.Bool.{false≢true}
use Rattle.http_requests.specs.Fields.{fields_of}
use Rattle.http_requests.specs.Framing.{wants_interim}
use Rattle.connection_laws.specs.Waiting.{AreWaiting}
use Rattle.http_requests.specs.Items.{Item, HasHead, IsNext, body_of, head_size, item_by, item_of}
use Rattle.http_requests.specs.Next.{AwaitsBody, AwaitsHead, IsNextFor, item_in}
use Rattle.http_requests.specs.declared.next.Awaited.{Awaited}
use Rattle.http_requests.specs.declared.request.Request.{Request}
use Rattle.http_requests.proofs.Heads.{HasHead-append, HasHead-unique}
use Rattle.http_words.specs.declared.fault.Fault.{Fault}
use Rattle.httparse.specs.Grammar.{RequestHead}
use Rattle.farm_http.specs.Received.{AsksInterim, ReceivedState}

-- what is taken behind it changes nothing
pub asks-append : (held more : List ℕ) → AsksInterim held → AsksInterim (held ++ more)
asks-append held more a = record {
  head = a.head;
  has = HasHead-append held more a.head a.has;
  len = a.len;
  body = a.body;
  asks = a.asks;
}

either-interim : (b : Bool) (x y : Item) (w : Bool) → x.interim ≡ w → y.interim ≡ w → (if b then x else y).interim ≡ w
either-interim true x y w p q = p
either-interim false x y w p q = q

item_of-interim : (head : RequestHead) (rest : List ℕ) (len : ℕ) → body_of head ≡ Ok len
    → (item_of head rest).interim ≡ wants_interim head.minor (fields_of head) len
unfolding item_of
item_of-interim head rest len is =
    ap (λ (r : Result ℕ Fault). (item_by head rest r).interim) is
    ∙ either-interim (nat_lt (length rest) len) _ _ (wants_interim head.minor (fields_of head) len) refl refl

-- an item that asks for it has a head that does
record HeadAsks (head : RequestHead) : Type 0 where
  len : ℕ
  body : body_of head ≡ Ok len
  asks : wants_interim head.minor (fields_of head) len ≡ true

item_by-asks : (head : RequestHead) (rest : List ℕ) (r : Result ℕ Fault) → body_of head ≡ r
    → (item_of head rest).interim ≡ true
    → HeadAsks head
unfolding item_of
item_by-asks head rest (Ok len) is asks =
    record { len = len; body = is; asks = sym (item_of-interim head rest len is) ∙ asks }
item_by-asks head rest (Err f) is asks =
    absurd (false≢true (sym (ap (λ (r : Result ℕ Fault). (item_by head rest r).interim) is) ∙ asks))

next_of-asks : (held : List ℕ) (item : Item) → IsNext held item → item.interim ≡ true → AsksInterim held
next_of-asks held item (inr x) asks = absurd (false≢true (sym (ap (λ (i : Item). i.interim) x.item_is) ∙ asks))
next_of-asks held item (inl x) asks =
    let h = item_by-asks x.head (drop (head_size x.head) held) (body_of x.head) refl
    (sym (ap (λ (i : Item). i.interim) x.item_is) ∙ asks) in
    record { head = x.head; has = x.has; len = h.len; body = h.body; asks = h.asks }

-- a request that has one: its head does, whatever follows
pub next-asks : (complete : Bool) (held : List ℕ) (request : Request) → IsNextFor complete held request
    → request.interim ≡ true
    → AsksInterim held
next-asks complete held request next asks =
    next_of-asks held (item_in held request)
    (subst (λ (l : List ℕ). IsNext l (item_in held request)) (append-nil held) (next.next [] (λ e. refl))) asks

-- and so does one whose body is awaited
pub body-asks : (complete : Bool) (held : List ℕ) (awaited : Awaited) → AwaitsBody complete held awaited
    → awaited.interim ≡ true
    → AsksInterim held
body-asks complete held awaited a asks =
    record { head = a.head; has = a.has; len = a.len; body = a.body; asks = sym a.interim ∙ asks }

pub item-asks : (held : List ℕ) (item : Item) → AsksInterim held → IsNext held item → item.interim ≡ true
item-asks held item a (inr x) = absurd (x.none a.head a.has)
item-asks held item a (inl x) =
    let same : x.head ≡ a.head = HasHead-unique held x.head a.head x.has a.has in
    let body : body_of x.head ≡ Ok a.len = ap (λ (h : RequestHead). body_of h) same ∙ a.body in
    ap (λ (i : Item). i.interim) x.item_is
    ∙ item_of-interim x.head (drop (head_size x.head) held) a.len body
    ∙ ap (λ (h : RequestHead). wants_interim h.minor (fields_of h) a.len) same
    ∙ a.asks

-- where it is out for the request at the front, that one has it
out_by : (out asked : Bool) → (out ≡ true → asked ≡ true) → (out || asked) ≡ asked
out_by false asked f = refl
out_by true asked f = sym (f refl)

-- the length of a body is one
one-length : (r : Result ℕ Fault) (m n : ℕ) → r ≡ Ok m → r ≡ Ok n → m ≡ n
one-length r m n first second = let same : m ≡ n = cc in same

body-has : (complete : Bool) (held : List ℕ) (awaited : Awaited) → AwaitsBody complete held awaited → AsksInterim held
    → awaited.interim ≡ true
body-has complete held awaited a b =
    let same : a.head ≡ b.head = HasHead-unique held a.head b.head a.has b.has in
    let body : body_of a.head ≡ Ok b.len = ap (λ (h : RequestHead). body_of h) same ∙ b.body in
    let lengths : a.len ≡ b.len = one-length (body_of a.head) a.len b.len a.body body in
    a.interim
    ∙ ap (λ (n : ℕ). wants_interim a.head.minor (fields_of a.head) n) lengths
    ∙ ap (λ (h : RequestHead). wants_interim h.minor (fields_of h) b.len) same
    ∙ b.asks

not-out : (out : Bool) (held : List ℕ) → ((head : RequestHead) → ¬ (HasHead held head))
    → (out ≡ true → AsksInterim held)
    → out ≡ false
not-out false held none asks = refl
not-out true held none asks = let a = asks refl in absurd (none a.head a.has)

-- where no head is whole, none is out, and where a head is whole whose body isn't, the one that it asks for is
pub head-waits : (complete : Bool) (held : List ℕ) (out : Bool) → AwaitsHead complete held
    → (out ≡ true → AsksInterim held)
    → AreWaiting held out
head-waits complete held out a asks =
    inl (record { awaits = subst (λ (b : Bool). AwaitsHead b held) a.open_ a; none = not-out out held a.none asks })

pub body-waits : (complete : Bool) (held : List ℕ) (out : Bool) (awaited : Awaited) → AwaitsBody complete held awaited
    → (out ≡ true → AsksInterim held) → AreWaiting held (out || awaited.interim)
body-waits complete held out awaited a asks = inr (record {
  awaited = awaited;
  awaits = subst (λ (b : Bool). AwaitsBody b held awaited) a.open_ a;
  asks = out_by out awaited.interim (λ e. body-has complete held awaited a (asks e));
})

pub next-out : (complete : Bool) (r : ReceivedState) (request : Request) → IsNextFor complete r.held request
    → (r.interim ≡ true → AsksInterim r.held) → (r.interim || request.interim) ≡ request.interim
next-out complete r request next asks =
    out_by r.interim request.interim
    (λ e. item-asks r.held (item_in r.held request) (asks e)
    (subst (λ (l : List ℕ). IsNext l (item_in r.held request)) (append-nil r.held) (next.next [] (λ f. refl))))
