-- The head that the parser found at the front of some bytes.
use Rattle.std.specs.Prelude.{ℕ, ◌≡◌, ◌≤◌, List, length}
use Rattle.httparse.specs.Grammar.{RequestHead, ReadsRequest, HasNoRequest, MayBecomeRequest}
use Rattle.httparse.specs.Spans.{RequestOverflows}
use Rattle.http_requests.specs.Lengths.{StatesWithin}
use Rattle.http_words.specs.declared.limits.TheConstants.{MAX_FIELDS}
use Rattle.http_requests.specs.Facts.{facts_of}
use Rattle.http_requests.specs.Fields.{fields_of}
use Rattle.http_requests.specs.Items.{head_size}
use Rattle.http_requests.specs.declared.head.Head.{Head}
use Rattle.http_requests.specs.declared.front.Front.{Front}
use Rattle.http_requests.specs.declared.front.Front.TheVariants as front

-- the parts in hand are those of the head
pub record IsHeadOf (parts : Head) (head : RequestHead) : Type 0 where
  pub method : parts.method.now ≡ head.method
  pub target : parts.target.now ≡ head.target
  pub minor : parts.minor ≡ head.minor
  pub facts : parts.facts ≡ facts_of (fields_of head)
  pub size : parts.size ≡ head_size head

-- a head with few enough fields is at the front of these bytes, and these are its parts
pub record IsFrontHead (bytes : List ℕ) (parts : Head) : Type 0 where
  pub head : RequestHead
  pub rest : List ℕ
  pub reads : ReadsRequest bytes head rest
  pub few_fields : length head.fields ≤ MAX_FIELDS
  pub is : IsHeadOf parts head
  pub stated : StatesWithin parts.facts.stated

-- what the parser says of the front of what is left
abbrev pub FrontSays : List ℕ → Front → Type 0
FrontSays bytes (front.Head parts) = IsFrontHead bytes parts
FrontSays bytes front.Open = HasNoRequest bytes × MayBecomeRequest bytes
FrontSays bytes front.Never = RequestOverflows MAX_FIELDS bytes
