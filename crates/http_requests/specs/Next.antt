-- What a reader of a connection may say of the bytes that it holds, while more may follow.
use Rattle.std.specs.Prelude.{ℕ, ◌+◌, ◌*◌, ◌<◌, ◌≤◌, ◌≡◌, ◌⊎◌, Bool, true, false, IsTrue, List, [], ◌++◌, length, take, drop, slice_range, Ok, Err}
use Rattle.std.specs.List.{list_all}
use Rattle.httparse.specs.Grammar.{RequestHead, MayBecomeRequest}
use Rattle.http_requests.specs.Fields.{fields_of}
use Rattle.http_requests.specs.Framing.{wants_interim}
use Rattle.http_requests.specs.Items.{Item, IsNext, IsIdle, HasHead, head_size, body_of, is_line_end}
use Rattle.http_requests.specs.Readings.{IsReading}
use Rattle.http_words.specs.declared.fault.Fault.{Fault}
use Rattle.http_words.specs.declared.limits.TheConstants.{MAX_HEAD_BYTES, MAX_BODY_BYTES}
use Rattle.http_requests.specs.declared.next.Awaited.{Awaited}
use Rattle.http_requests.specs.declared.next.Next.{Next}
use Rattle.http_requests.specs.declared.next.Next.TheVariants as next
use Rattle.http_requests.specs.declared.reading.Reading.{Reading}
use Rattle.http_requests.specs.declared.request.Request.{Request}

-- a request that is answered by a fault and ends the connection
abbrev pub refusal : Bool → Bool → Fault → Request
refusal interim withheld fault = record {
  interim = interim;
  withheld = withheld;
  closes = true;
  asks = Err fault;
  body = 0;
  size = 0;
}

-- the item that a request at the front of these bytes is
abbrev pub item_in : List ℕ → Request → Item
item_in held request = record {
  interim = request.interim;
  withheld = request.withheld;
  closes = request.closes;
  asks = request.asks;
  body = slice_range held request.body request.size;
  size = request.size;
}

-- what may still follow the bytes held: nothing once the input has ended
abbrev pub MayFollow : Bool → List ℕ → Type 0
MayFollow ended more = IsTrue ended → more ≡ []

-- the request lies in the bytes held, and is the item at their front whatever follows
pub record IsNextFor (ended : Bool) (held : List ℕ) (request : Request) : Type 0 where
  pub body : request.body ≤ request.size
  pub within : request.size ≤ length held
  pub next : (more : List ℕ) → MayFollow ended more → IsNext (held ++ more) (item_in held request)

-- no head stands at the front, whatever follows
abbrev pub HasNoHeadFor : Bool → List ℕ → Type 0
HasNoHeadFor ended held = (more : List ℕ) → MayFollow ended more → (head : RequestHead) → ¬ (HasHead (held ++ more) head)

-- more than half of the bytes held may become a head
pub record MayHaveCome (held : List ℕ) : Type 0 where
  pub count : ℕ
  pub half : length held < 2 * count
  pub may : MayBecomeRequest (take count held)

-- No whole head is held, fewer bytes than a head may have are, and one may still come of them, or might have of
-- more than half of them.
pub record AwaitsHead (ended : Bool) (held : List ℕ) : Type 0 where
  pub open_ : ended ≡ false
  pub few : length held < MAX_HEAD_BYTES
  pub none : (head : RequestHead) → ¬ (HasHead held head)
  pub may_come : IsTrue (list_all is_line_end held) ⊎ MayHaveCome held

-- A head is held, and its body isn't whole.
pub record AwaitsBody (ended : Bool) (held : List ℕ) (awaited : Awaited) : Type 0 where
  pub open_ : ended ≡ false
  pub head : RequestHead
  pub has : HasHead held head
  pub len : ℕ
  pub body : body_of head ≡ Ok len
  pub size : awaited.size ≡ head_size head + len
  pub lacks : length held < awaited.size
  pub bounded : awaited.size ≤ MAX_HEAD_BYTES + MAX_BODY_BYTES
  pub interim : awaited.interim ≡ wants_interim head.minor (fields_of head) len

-- what each answer says of the bytes held
abbrev pub Says : Bool → List ℕ → Next → Type 0
Says ended held next.More = AwaitsHead ended held
Says ended held (next.Body awaited) = AwaitsBody ended held awaited
Says ended held (next.Request request) = IsNextFor ended held request
Says ended held next.End = IsTrue ended × IsIdle held

-- what is left of the bytes held, once that was answered
abbrev pub left_of : List ℕ → Next → List ℕ
left_of held next.More = held
left_of held (next.Body awaited) = held
left_of held (next.Request request) = drop request.size held
left_of held next.End = held

-- that comes next, and what is kept is of the bytes that are left
pub record IsFound (ended : Bool) (held : List ℕ) (next : Next) (reading : Reading) : Type 0 where
  pub says : Says ended held next
  pub keeps : IsReading reading (left_of held next)
