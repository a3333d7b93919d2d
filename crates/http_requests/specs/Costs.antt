-- How many bytes are looked at while a request is read.
use Rattle.std.specs.Prelude.{ℕ, ◌+◌, ◌*◌, ◌≡◌, ◌≤◌, ◌==◌, List, length, min, if◌then◌else◌}
use Rattle.std.specs.declared.sync.ledger.Blank.{Blank}
use Rattle.http_requests.specs.declared.next.Next.{Next}
use Rattle.http_requests.specs.declared.next.Next.TheVariants as next
use Rattle.http_requests.specs.declared.reading.Reading.{Reading}
use Rattle.http_requests.specs.declared.reading.Stage.{Stage}
use Rattle.http_requests.specs.declared.reading.Stage.TheVariants as stage
use Rattle.http_words.specs.declared.limits.TheConstants.{MAX_HEAD_BYTES}

-- a blank can count for the ledger of this name, which has so many parts
pub record CanCount (blank : Blank) (name parts : ℕ) : Type 0 where
  pub named : blank.name ≡ name
  pub cut : blank.parts ≡ parts
  pub some : 1 ≤ parts

-- How many bytes were looked at, at most, for what was read of a request so far: each of its head once, and those that
-- were given to the parser, each time at least twice as many as the last time.
abbrev pub cost_of : Stage → ℕ
cost_of (stage.Head begun) = begun.look.count + 2 * begun.tried
cost_of (stage.Body request) = 4 * request.body

-- the same of what is kept of it
abbrev pub cost : Reading → ℕ
cost reading = cost_of reading.stage

-- how many of these bytes may be a head's
abbrev pub head_room : List ℕ → ℕ
head_room held = min (length held) MAX_HEAD_BYTES

-- How many bytes may have been looked at once this comes next: four times those of the head, where there is one, or
-- else of those that might have been its.
abbrev pub most : List ℕ → Reading → Next → ℕ
most held reading next.More = cost reading
most held reading (next.Body awaited) = cost reading
most held reading (next.Request request) = if request.size == 0 then 4 * head_room held else 4 * request.body
most held reading next.End = 4 * head_room held
