-- How long the body of a response is (RFC 9112, section 6), by the names and values of its head's fields.
use Rattle.std.specs.Prelude.{ℕ, map, Option, Some, None}
use Rattle.httparse.specs.Grammar.{ResponseHead}
use Rattle.httparse.specs.Spans.{name_and_value}
use Rattle.http_requests.specs.Lengths.{stated_length}
use Rattle.http_requests.specs.declared.lengths.StatedLength.{StatedLength}
use Rattle.http_requests.specs.declared.lengths.StatedLength.TheVariants.{Absent, Bytes, TooLong, Malformed}

-- exactly one field has to state a length, which is within the limit
abbrev pub length_by : StatedLength → Option ℕ
length_by Absent = None
length_by (Bytes len) = Some len
length_by TooLong = None
length_by Malformed = None

-- the length of the body behind a head, if it states one
abbrev pub body_length : ResponseHead → Option ℕ
body_length head = length_by (stated_length (map name_and_value head.fields))
