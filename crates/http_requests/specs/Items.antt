-- The items of a connection's bytes: what is answered, one after the other.
use Rattle.std.specs.Prelude.{ℕ, ◌+◌, ◌<◌, ◌≤◌, ◌≡◌, ◌⊎◌, Bool, true, false, ◌||◌, ◌==◌, List, [], ◌∷◌, length, take, drop, nat_lt, IsTrue, Result, Ok, Err, if◌then◌else◌}
use Rattle.std.specs.List.{list_all}
use Rattle.httparse.specs.Ascii.{carriage_return, line_feed}
use Rattle.httparse.specs.Grammar.{RequestHead, ReadsRequest, print_request}
use Rattle.http_requests.specs.Fields.{fields_of}
use Rattle.http_requests.specs.Framing.{body_length, wants_interim, closes_after, is_head_method}
use Rattle.http_requests.specs.Routes.{endpoint_of}
use Rattle.http_words.specs.declared.endpoint.Endpoint.{Endpoint}
use Rattle.http_words.specs.declared.fault.Fault.{Fault}
use Rattle.http_words.specs.declared.fault.Fault.TheVariants as fault
use Rattle.http_words.specs.declared.limits.TheConstants.{MAX_HEAD_BYTES, MAX_FIELDS}

-- what is answered once: a request, or bytes that form none
pub record Item : Type 0 where
  -- the interim answer is put before the answer
  pub interim : Bool
  -- the answer's body isn't put
  pub withheld : Bool
  -- the connection closes after the answer
  pub closes : Bool
  -- what is asked for, or the fault that is answered
  pub asks : Result Endpoint Fault
  -- the body that came with it, which is empty where none was read
  pub body : List ℕ
  -- how many bytes it takes, 0 where no more are read behind it
  pub size : ℕ

-- a line end's byte
abbrev pub is_line_end : ℕ → Bool
is_line_end b = (b == carriage_return) || (b == line_feed)

-- The connection has ended: fewer bytes are left than a head may have, and they end lines at most.
pub record IsIdle (bytes : List ℕ) : Type 0 where
  pub few : length bytes < MAX_HEAD_BYTES
  pub blank : IsTrue (list_all is_line_end bytes)

-- the bytes begin with this head, which is within the limits
pub record HasHead (bytes : List ℕ) (head : RequestHead) : Type 0 where
  pub rest : List ℕ
  pub reads : ReadsRequest (take MAX_HEAD_BYTES bytes) head rest
  pub few_fields : length head.fields ≤ MAX_FIELDS

-- how many bytes a head has
abbrev pub head_size : RequestHead → ℕ
head_size head = length (print_request head)

-- what is answered by a fault and ends the connection
abbrev pub refused : Bool → Bool → Fault → Item
refused interim withheld fault = record {
  interim = interim;
  withheld = withheld;
  closes = true;
  asks = Err fault;
  body = [];
  size = 0;
}

-- the item of a head with its body's length, where these bytes follow the head: a body that is cut off is a bad request
abbrev pub item_by : RequestHead → List ℕ → Result ℕ Fault → Item
item_by head behind (Err fault) = refused false (is_head_method head.method) fault
item_by head behind (Ok len) =
    if nat_lt (length behind) len then
    refused (wants_interim head.minor (fields_of head) len) (is_head_method head.method) fault.BadRequest
    else record {
      interim = wants_interim head.minor (fields_of head) len;
      withheld = is_head_method head.method;
      closes = closes_after head.minor (fields_of head);
      asks = endpoint_of head.method head.target;
      body = take len behind;
      size = head_size head + len;
    }

-- the length of a head's body, or its fault
abbrev pub body_of : RequestHead → Result ℕ Fault
body_of head = body_length head.method head.minor (fields_of head)

-- the item of a head, where these bytes follow it
unfoldable pub item_of : RequestHead → List ℕ → Item
item_of head behind = item_by head behind (body_of head)

-- the item of bytes that begin with no head
abbrev pub bad_head : Item
bad_head = refused false false fault.BadRequest

-- the bytes begin with a head, and this is its item
pub record IsRequest (bytes : List ℕ) (item : Item) : Type 0 where
  pub head : RequestHead
  pub has : HasHead bytes head
  pub item_is : item ≡ item_of head (drop (head_size head) bytes)

-- there are bytes, they begin with no head, and this is their item
pub record IsBadHead (bytes : List ℕ) (item : Item) : Type 0 where
  pub busy : ¬ (IsIdle bytes)
  pub none : (head : RequestHead) → ¬ (HasHead bytes head)
  pub item_is : item ≡ bad_head

-- the item at the front of what is left
abbrev pub IsNext : List ℕ → Item → Type 0
IsNext bytes item = IsRequest bytes item ⊎ IsBadHead bytes item

-- how the items of a connection end: there are no more bytes, or one of them closes it
pub data End : Type 0 where
  ended closed : End

-- The items of a connection's whole bytes, and how they end. No item is read behind one that closes.
abbrev pub Items : List ℕ → List Item → End → Type 0
Items bytes [] end = IsIdle bytes × (end ≡ ended)
Items bytes (item ∷ items) end =
    IsNext bytes item
    × (((item.closes ≡ true) × (items ≡ []) × (end ≡ closed))
    ⊎ ((item.closes ≡ false) × Items (drop item.size bytes) items end))
