-- The bytes of answers (RFC 9112, sections 4 and 5).
use Rattle.std.specs.Prelude.{ℕ, Bool, true, false, List, [], ◌++◌, length, codes, decimal, Option, Some, None, if◌then◌else◌}
use Rattle.http_words.specs.declared.fault.Allow.{Allow}
use Rattle.http_words.specs.declared.fault.Allow.TheVariants as allow
use Rattle.http_answers.specs.Lines.{line}
use Rattle.http_answers.specs.Pieces.{parts_joined}
use Rattle.http_answers.specs.declared.answer.HttpAnswer.{HttpAnswer}
use Rattle.http_words.specs.declared.status_code.StatusCode.{StatusCode}
use Rattle.http_words.specs.declared.status_code.StatusCode.TheVariants as status

-- the number and the name of a status
abbrev pub status_text : StatusCode → List ℕ
status_text status.Ok = codes "200 OK"
status_text status.BadRequest = codes "400 Bad Request"
status_text status.Forbidden = codes "403 Forbidden"
status_text status.NotFound = codes "404 Not Found"
status_text status.MethodNotAllowed = codes "405 Method Not Allowed"
status_text status.Conflict = codes "409 Conflict"
status_text status.LengthRequired = codes "411 Length Required"
status_text status.TooLarge = codes "413 Content Too Large"
status_text status.TooManyRequests = codes "429 Too Many Requests"
status_text status.NotImplemented = codes "501 Not Implemented"
status_text status.Unavailable = codes "503 Service Unavailable"
status_text status.NoStorage = codes "507 Insufficient Storage"

unfoldable pub status_line : StatusCode → List ℕ
status_line s = line (codes "HTTP/1.1 " ++ status_text s)

-- the methods allowed
unfoldable pub methods_line : Allow → List ℕ
methods_line allow.Post = line (codes "Allow: POST")
methods_line allow.GetAndHead = line (codes "Allow: GET, HEAD")

-- the same, where the answer names them
abbrev pub allow_line : Option Allow → List ℕ
allow_line None = []
allow_line (Some methods) = methods_line methods

unfoldable pub closing_line : List ℕ
closing_line = line (codes "Connection: close")

-- that the connection closes, where it does
abbrev pub close_line : Bool → List ℕ
close_line true = closing_line
close_line false = []

-- the body that is put
abbrev pub body_put : Bool → List ℕ → List ℕ
body_put withheld body = if withheld then [] else body

-- the bytes of an answer
unfoldable pub answer_bytes : HttpAnswer → List ℕ
answer_bytes answer =
    parts_joined (status_line answer.status) (decimal (length answer.body.now)) (allow_line answer.allow) (close_line answer.closes) (body_put answer.withheld answer.body.now)

-- the bytes of the interim answer
unfoldable pub interim_bytes : List ℕ
interim_bytes = line (line (codes "HTTP/1.1 100 Continue"))
