-- A POST with a field named Origin: what it comes to, and that nothing else comes to its fault.
use Rattle.std.proofs.Common.{ℕ, ◌≡◌, ◌+◌, inl, inr, Bool, true, false, not, if◌then◌else◌, List, length, drop, take, codes, refl, sym, ap, ◌∙◌, Result, Ok, Err, nat_lt}
use Rattle.std.proofs.lemmas.Bool.{and_parts}
use Rattle.std.proofs.lemmas.Slice.Eq.{bytes_eq-Decides}
use Rattle.httparse.specs.Grammar.{RequestHead}
use Rattle.http_requests.specs.FieldTexts.{FieldText}
use Rattle.http_requests.specs.Lengths.{stated_length}
use Rattle.http_requests.specs.declared.lengths.StatedLength.{StatedLength}
use Rattle.http_requests.specs.declared.lengths.StatedLength.TheVariants.{Absent, Bytes, TooLong, Malformed}
use Rattle.http_requests.proofs.Rows.{endpoint_of-holds}
use Rattle.http_requests.specs.Routes.{endpoint_of}
use Rattle.http_words.specs.declared.endpoint.Endpoint.{Endpoint}
use Rattle.http_words.specs.declared.fault.Fault.{Fault}
use Rattle.http_words.specs.declared.fault.Fault.TheVariants as fault
use Rattle.http_requests.specs.Fields.{fields_of}
use Rattle.http_requests.specs.Framing.{body_length, closes_after, has_coding, has_host, is_foreign, is_head_method, is_post, length_by, wants_interim}
use Rattle.http_requests.specs.Items.{Item, IsNext, IsRequest, body_of, head_size, item_by, item_of, refused}
use Rattle.http_requests.proofs.ItemLaws.{item_of-refused}

-- the length of the body by what the rules before ask
abbrev framed : Bool → Bool → Bool → Result ℕ Fault → Result ℕ Fault
framed host foreign coding len =
    if not host then Err fault.BadRequest
    else if foreign then Err fault.Foreign
    else if coding then Err fault.NotImplemented
    else len

-- ---- what it comes to

body-foreign : (method : List ℕ) (minor : ℕ) (fields : List FieldText) → has_host minor fields ≡ true
    → is_foreign method fields ≡ true → body_length method minor fields ≡ Err fault.Foreign
unfolding body_length
body-foreign method minor fields host foreign =
    λ k. framed (host k) (foreign k) (has_coding fields) (length_by method (stated_length fields))

body-hostless : (method : List ℕ) (minor : ℕ) (fields : List FieldText) → has_host minor fields ≡ false
    → body_length method minor fields ≡ Err fault.BadRequest
unfolding body_length
body-hostless method minor fields host =
    λ k. framed (host k) (is_foreign method fields) (has_coding fields) (length_by method (stated_length fields))

-- its method is another one than HEAD
foreign-no_head : (method : List ℕ) (fields : List FieldText) → is_foreign method fields ≡ true
    → is_head_method method ≡ false
unfolding is_head_method
foreign-no_head method fields foreign =
    ap is_head_method ((bytes_eq-Decides method (codes "POST")).0 (and_parts _ _ foreign).1)

item-refused : (bytes : List ℕ) (item : Item) (x : IsRequest bytes item) (f : Fault)
    → is_foreign x.head.method (fields_of x.head) ≡ true → body_of x.head ≡ Err f → item ≡ refused false false f
item-refused bytes item x f foreign is =
    x.item_is ∙ item_of-refused x.head (drop (head_size x.head) bytes) f is
    ∙ ap (λ (b : Bool). refused false b f) (foreign-no_head x.head.method (fields_of x.head) foreign)

pub item-foreign : (bytes : List ℕ) (item : Item) (x : IsRequest bytes item)
    → is_foreign x.head.method (fields_of x.head) ≡ true
    → has_host x.head.minor (fields_of x.head) ≡ true → item ≡ refused false false fault.Foreign
item-foreign bytes item x foreign host =
    item-refused bytes item x fault.Foreign foreign
    (body-foreign x.head.method x.head.minor (fields_of x.head) host foreign)

pub item-hostless : (bytes : List ℕ) (item : Item) (x : IsRequest bytes item)
    → is_foreign x.head.method (fields_of x.head) ≡ true
    → has_host x.head.minor (fields_of x.head) ≡ false → item ≡ refused false false fault.BadRequest
item-hostless bytes item x foreign host =
    item-refused bytes item x fault.BadRequest foreign
    (body-hostless x.head.method x.head.minor (fields_of x.head) host)

-- ---- nothing else comes to it

endpoint-other : (method target : List ℕ) → endpoint_of method target ≡ Err fault.Foreign → ⊥
endpoint-other method target =
    endpoint_of-holds (λ (r : Result Endpoint Fault). r ≡ Err fault.Foreign → ⊥) method target (record {
      command = λ r allowed e. cc;
      totals = λ e. cc;
      log = λ from one e. cc;
      not_found = λ e. cc;
      not_allowed = λ methods e. cc;
      bad_field = λ name e. cc;
    })

-- the length where none is stated, by whether the method is POST
abbrev unstated : Bool → Result ℕ Fault
unstated post = if post then Err fault.LengthRequired else Ok 0

unstated-other : (post : Bool) → unstated post ≡ Err fault.Foreign → ⊥
unstated-other true e = cc
unstated-other false e = cc

length-other : (method : List ℕ) (stated : StatedLength) → length_by method stated ≡ Err fault.Foreign → ⊥
length-other method Absent e = unstated-other (is_post method) e
length-other method (Bytes len) e = cc
length-other method TooLong e = cc
length-other method Malformed e = cc

framed-only : (host foreign coding : Bool) (len : Result ℕ Fault) → (len ≡ Err fault.Foreign → ⊥)
    → framed host foreign coding len ≡ Err fault.Foreign → (foreign ≡ true) × (host ≡ true)
framed-only false foreign coding len other e = let bad : ⊥ = cc in absurd bad
framed-only true true coding len other e = (refl, refl)
framed-only true false true len other e = let bad : ⊥ = cc in absurd bad
framed-only true false false len other e = absurd (other e)

body-only : (method : List ℕ) (minor : ℕ) (fields : List FieldText)
    → body_length method minor fields ≡ Err fault.Foreign
    → (is_foreign method fields ≡ true) × (has_host minor fields ≡ true)
unfolding body_length
body-only method minor fields e =
    framed-only (has_host minor fields) (is_foreign method fields) (has_coding fields)
    (length_by method (stated_length fields)) (length-other method (stated_length fields)) e

bad-other : (asks : Result Endpoint Fault) → asks ≡ Err fault.BadRequest → asks ≡ Err fault.Foreign → ⊥
bad-other asks is e = cc

either-other : (b : Bool) (x y : Item) → (x.asks ≡ Err fault.Foreign → ⊥) → (y.asks ≡ Err fault.Foreign → ⊥)
    → (if b then x else y).asks ≡ Err fault.Foreign → ⊥
either-other true x y p q e = p e
either-other false x y p q e = q e

by-only : (head : RequestHead) (behind : List ℕ) (r : Result ℕ Fault) → (item_by head behind r).asks ≡ Err fault.Foreign
    → r ≡ Err fault.Foreign
by-only head behind (Err f) e = let same : f ≡ fault.Foreign = cc in ap (λ (g : Fault). Err g) same
by-only head behind (Ok len) e =
    absurd (either-other (nat_lt (length behind) len)
    (refused (wants_interim head.minor (fields_of head) len) (is_head_method head.method) fault.BadRequest)
    (record {
      interim = wants_interim head.minor (fields_of head) len;
      withheld = is_head_method head.method;
      closes = closes_after head.minor (fields_of head);
      asks = endpoint_of head.method head.target;
      body = take len behind;
      size = head_size head + len;
    })
    (bad-other (Err fault.BadRequest) refl) (endpoint-other head.method head.target) e)

head-only : (head : RequestHead) (behind : List ℕ) → (item_of head behind).asks ≡ Err fault.Foreign
    → body_of head ≡ Err fault.Foreign
unfolding item_of
head-only head behind e = by-only head behind (body_of head) e

pub foreign-only : (bytes : List ℕ) (item : Item) → IsNext bytes item → item.asks ≡ Err fault.Foreign
    → (x : IsRequest bytes item) × (is_foreign x.head.method (fields_of x.head) ≡ true)
    × (has_host x.head.minor (fields_of x.head) ≡ true)
foreign-only bytes item (inl x) e =
    let is = head-only x.head (drop (head_size x.head) bytes) (sym (ap (λ (i : Item). i.asks) x.item_is) ∙ e) in
    let only = body-only x.head.method x.head.minor (fields_of x.head) is in
    (x, only.0, only.1)
foreign-only bytes item (inr x) e = absurd (bad-other item.asks (ap (λ (i : Item). i.asks) x.item_is) e)
