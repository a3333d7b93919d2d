-- What a reader of a connection keeps of the bytes that it has seen.
use Rattle.std.specs.Prelude.{ℕ, ◌+◌, ◌≡◌, ◌<◌, ◌≤◌, false, List, Ok, Err, Result}
use Rattle.httparse.specs.Grammar.{RequestHead}
use Rattle.http_requests.specs.Fields.{fields_of}
use Rattle.http_requests.specs.Framing.{wants_interim, closes_after, is_head_method}
use Rattle.http_requests.specs.Items.{HasHead, head_size, body_of}
use Rattle.http_requests.specs.Looks.{IsLook, IsTried}
use Rattle.http_requests.specs.Places.{is_end}
use Rattle.http_requests.specs.declared.reading.Begun.{Begun}
use Rattle.http_requests.specs.declared.reading.Reading.{Reading}
use Rattle.http_requests.specs.declared.reading.Stage.{Stage}
use Rattle.http_requests.specs.declared.reading.Stage.TheVariants as stage
use Rattle.http_requests.specs.declared.request.Request.{Request}
use Rattle.http_requests.specs.Routes.{endpoint_of}
use Rattle.http_words.specs.declared.fault.Fault.{Fault}
use Rattle.http_words.specs.declared.limits.TheConstants.{MAX_HEAD_BYTES, MAX_BODY_BYTES}

-- the request is what a head comes to with a body of this length
pub record IsWholeOf (request : Request) (head : RequestHead) (len : ℕ) : Type 0 where
  pub interim : request.interim ≡ wants_interim head.minor (fields_of head) len
  pub withheld : request.withheld ≡ is_head_method head.method
  pub closes : request.closes ≡ closes_after head.minor (fields_of head)
  pub asks : request.asks ≡ endpoint_of head.method head.target
  pub body : request.body ≡ head_size head
  pub size : request.size ≡ head_size head + len

-- the same, with the length that the head states
pub record IsBecome (head : RequestHead) (request : Request) : Type 0 where
  pub len : ℕ
  pub states : body_of head ≡ Ok len
  pub small : len ≤ MAX_BODY_BYTES
  pub whole : IsWholeOf request head len

-- what a head becomes: the request, once its body is whole, or the fault for which no body is read
abbrev pub Becomes : RequestHead → Result Request Fault → Type 0
Becomes head (Ok request) = IsBecome head request
Becomes head (Err fault) = body_of head ≡ Err fault

-- The bytes were looked at to some place, no head ends there or before, and what the parser was last given may become
-- one.
pub record IsBegun (begun : Begun) (bytes : List ℕ) : Type 0 where
  pub look : IsLook begun.look bytes
  pub few : begun.look.count < MAX_HEAD_BYTES
  pub no_end : is_end begun.look.place ≡ false
  pub tried : IsTried begun.tried begun.look bytes

-- a head is at the front, and this is what it becomes
pub record IsBodyAwaited (request : Request) (bytes : List ℕ) : Type 0 where
  pub head : RequestHead
  pub has : HasHead bytes head
  pub becomes : IsBecome head request

-- how far the request at the front of these bytes was read
abbrev pub IsStage : Stage → List ℕ → Type 0
IsStage (stage.Head begun) bytes = IsBegun begun bytes
IsStage (stage.Body request) bytes = IsBodyAwaited request bytes

-- What is kept was read of the bytes at the front of these, and of no others.
abbrev pub IsReading : Reading → List ℕ → Type 0
IsReading reading bytes = IsStage reading.stage bytes
