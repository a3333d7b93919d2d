-- How long the body of a request is, and what the connection does (RFC 9112, sections 3.2, 6 and 9, and RFC 9110,
-- section 10.1.1), where what this service doesn't do is refused, and so is what pages in browsers send.
use Rattle.std.specs.Prelude.{ℕ, Bool, not, ◌&&◌, ◌||◌, ◌==◌, List, length, nat_lt, Result, Ok, Err, codes, bytes_eq, if◌then◌else◌}
use Rattle.http_requests.specs.FieldTexts.{FieldText, named_values, has_close, expects_continue}
use Rattle.http_requests.specs.Lengths.{stated_length}
use Rattle.http_requests.specs.declared.lengths.StatedLength.{StatedLength}
use Rattle.http_requests.specs.declared.lengths.StatedLength.TheVariants.{Absent, Bytes, TooLong, Malformed}
use Rattle.http_words.specs.declared.fault.Fault.{Fault}
use Rattle.http_words.specs.declared.fault.Fault.TheVariants as fault

-- a version of HTTP/1 where exactly one Host field has to stand has it
abbrev pub has_host : ℕ → List FieldText → Bool
has_host minor fields = (minor == 0) || (length (named_values (codes "host") fields) == 1)

-- the method that changes something
abbrev pub is_post : List ℕ → Bool
is_post method = bytes_eq method (codes "POST")

-- a field has the name Origin, whatever its value (RFC 6454, section 7)
abbrev pub has_origin : List FieldText → Bool
has_origin fields = nat_lt 0 (length (named_values (codes "origin") fields))

-- a page in a browser may have sent it: with each POST to another site browsers send where the page is from
abbrev pub is_foreign : List ℕ → List FieldText → Bool
is_foreign method fields = has_origin fields && is_post method

-- a transfer coding is named
abbrev pub has_coding : List FieldText → Bool
has_coding fields = nat_lt 0 (length (named_values (codes "transfer-encoding") fields))

-- the length of the body, by what the fields state of it: a POST has to state one, and no other request has a body
-- without
abbrev pub length_by : List ℕ → StatedLength → Result ℕ Fault
length_by method Absent = if is_post method then Err fault.LengthRequired else Ok 0
length_by method (Bytes len) = Ok len
length_by method TooLong = Err fault.TooLarge
length_by method Malformed = Err fault.BadRequest

-- the length of the body, or the fault for which none is read
unfoldable pub body_length : List ℕ → ℕ → List FieldText → Result ℕ Fault
body_length method minor fields =
    if not (has_host minor fields) then Err fault.BadRequest
    else if is_foreign method fields then Err fault.Foreign
    else if has_coding fields then Err fault.NotImplemented
    else length_by method (stated_length fields)

-- the interim answer is put before the body is read
unfoldable pub wants_interim : ℕ → List FieldText → ℕ → Bool
wants_interim minor fields len = (minor == 1) && (nat_lt 0 len && expects_continue fields)

-- the connection closes after the answer
unfoldable pub closes_after : ℕ → List FieldText → Bool
closes_after minor fields = (minor == 0) || has_close fields

-- the answer's body isn't put
unfoldable pub is_head_method : List ℕ → Bool
is_head_method method = bytes_eq method (codes "HEAD")
